use Rattle.eb_fields.specs.Dialect.{dialect_of}
use Rattle.std.proofs.Common.{ℕ, ◌+◌, drop, ap, sym, arith, length-drop}
use Rattle.std.proofs.lemmas.Str.{IsCharBoundary-after_ascii}
use Rattle.eb_query.specs.Grammar.{Lexeme}
use Rattle.eb_query.specs.Lexemes.{is_quote}
use Rattle.eb_query.proofs.Leaves.{quoted_is, quoted_end}
use Rattle.eb_query.proofs.Cuts.{quoted_none, found_len, cut_within, cut_before, is_quote_small, quote_boundary}
use Rattle.eb_query.proofs.quoted.quoted_at.Goals as goal

pub returns-then-len-line-clause-lexeme : goal.returns-then-len-line-clause-lexeme
returns-then-len-line-clause-lexeme c =
    let e = found_len is_quote c.as_bytes.result.now c.args.line.now c.args.at c.quote_at-len.result c.as_bytes.ensures.value c.quote_at-len.ensures in let h = c.if-len-line.true in
    sym (ap (λ (p : Lexeme × ℕ). p.0) (quoted_none (dialect_of c.args.dialect.now) (drop (c.args.at + 1) c.args.line.now) c.quote_at-len.result e
    (omega (arith, length-drop (c.args.at + 1) c.args.line.now))))

pub returns-then-len-line-clause-end : goal.returns-then-len-line-clause-end
returns-then-len-line-clause-end c =
    let e = found_len is_quote c.as_bytes.result.now c.args.line.now c.args.at c.quote_at-len.result c.as_bytes.ensures.value c.quote_at-len.ensures in let h = c.if-len-line.true in
    rw (quoted_none (dialect_of c.args.dialect.now) (drop (c.args.at + 1) c.args.line.now) c.quote_at-len.result e (omega (arith, length-drop (c.args.at + 1) c.args.line.now)))
    (omega (arith, length-drop (c.args.at + 1) c.args.line.now))

pub overflow_add-quote : goal.overflow_add-quote
overflow_add-quote c =
    let e = found_len is_quote c.as_bytes.result.now c.args.line.now c.args.at c.quote_at-len.result c.as_bytes.ensures.value c.quote_at-len.ensures in
    let h = cut_within is_quote c.args.line.now c.args.at c.quote_at-len.result c.requires.within e in
    let m = c.type_inv.line in omega arith

pub range-requires-clause-start_boundary : goal.range-requires-clause-start_boundary
range-requires-clause-start_boundary c = λ _. let q = c.requires.quote in IsCharBoundary-after_ascii c.args.line.now c.args.at c.utf8.line c.requires.within (omega (arith, q))

pub range-requires-clause-end_boundary : goal.range-requires-clause-end_boundary
range-requires-clause-end_boundary c =
    let e = found_len is_quote c.as_bytes.result.now c.args.line.now c.args.at c.quote_at-len.result c.as_bytes.ensures.value c.quote_at-len.ensures in
    cut_before is_quote c.args.line.now c.args.at c.quote_at-len.result is_quote_small c.requires.within e

pub closed_at-requires-clause-boundary : goal.closed_at-requires-clause-boundary
closed_at-requires-clause-boundary c =
    let e = found_len is_quote c.as_bytes.result.now c.args.line.now c.args.at c.quote_at-len.result c.as_bytes.ensures.value c.quote_at-len.ensures in
    let h = c.if-len-line.false in let w = cut_within is_quote c.args.line.now c.args.at c.quote_at-len.result c.requires.within e in
    quote_boundary c.args.line.now c.args.at c.quote_at-len.result c.utf8.line c.requires.within e (omega (arith, length-drop (c.args.at + 1) c.args.line.now))

pub returns-clause-lexeme : goal.returns-clause-lexeme
returns-clause-lexeme c =
    let e = found_len is_quote c.as_bytes.result.now c.args.line.now c.args.at c.quote_at-len.result c.as_bytes.ensures.value c.quote_at-len.ensures in
    let h = c.if-len-line.false in let w = cut_within is_quote c.args.line.now c.args.at c.quote_at-len.result c.requires.within e in
    let q = quoted_is (dialect_of c.args.dialect.now) c.args.line.now c.range.result.now c.args.at c.quote_at-len.result e
    (omega (arith, length-drop (c.args.at + 1) c.args.line.now)) c.range.ensures.value in
    rw q c.closed_at.ensures.lexeme

pub returns-clause-end : goal.returns-clause-end
returns-clause-end c =
    let e = found_len is_quote c.as_bytes.result.now c.args.line.now c.args.at c.quote_at-len.result c.as_bytes.ensures.value c.quote_at-len.ensures in
    let h = c.if-len-line.false in let w = cut_within is_quote c.args.line.now c.args.at c.quote_at-len.result c.requires.within e in
    let q = quoted_is (dialect_of c.args.dialect.now) c.args.line.now c.range.result.now c.args.at c.quote_at-len.result e
    (omega (arith, length-drop (c.args.at + 1) c.args.line.now)) c.range.ensures.value in
    rw (quoted_end (dialect_of c.args.dialect.now) c.args.line.now c.args.at c.quote_at-len.result _ q) c.closed_at.ensures.end
