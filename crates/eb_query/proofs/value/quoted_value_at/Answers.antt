use Rattle.std.proofs.Common.{ℕ, ◌<◌, drop, length, ap, sym, arith, length-drop, add_assoc}
use Rattle.eb_query.specs.Grammar.{Lexeme}
use Rattle.eb_query.specs.Lexemes.{is_quote}
use Rattle.eb_query.proofs.Cuts.{is_quote_small}
use Rattle.eb_query.proofs.FieldValues.{found_from, within_from, boundary_from, behind_quote, value_part, quoted_value_none, quoted_value_some}
use Rattle.eb_query.proofs.value.quoted_value_at.Goals as goal

pub returns-then-len-line-clause-lexeme : goal.returns-then-len-line-clause-lexeme
returns-then-len-line-clause-lexeme c =
    let e = found_from is_quote c.as_bytes.result.now c.args.line.now c.args.from c.quote_at-len.result c.as_bytes.ensures.value c.quote_at-len.ensures in let h = c.if-len-line.true in
    sym (ap (λ (p : Lexeme × ℕ). p.0) (quoted_value_none c.args.name.now (drop c.args.from c.args.line.now) c.quote_at-len.result e (omega (arith, length-drop c.args.from c.args.line.now))))

pub returns-then-len-line-clause-end : goal.returns-then-len-line-clause-end
returns-then-len-line-clause-end c =
    let e = found_from is_quote c.as_bytes.result.now c.args.line.now c.args.from c.quote_at-len.result c.as_bytes.ensures.value c.quote_at-len.ensures in let h = c.if-len-line.true in
    let w = c.requires.within in
    rw (quoted_value_none c.args.name.now (drop c.args.from c.args.line.now) c.quote_at-len.result e (omega (arith, length-drop c.args.from c.args.line.now)))
    (omega (arith, length-drop c.args.from c.args.line.now))

pub overflow_add-quote : goal.overflow_add-quote
overflow_add-quote c =
    let e = found_from is_quote c.as_bytes.result.now c.args.line.now c.args.from c.quote_at-len.result c.as_bytes.ensures.value c.quote_at-len.ensures in
    let w = within_from is_quote c.args.line.now c.args.from c.quote_at-len.result c.requires.within e in
    let m = c.type_inv.line in omega arith

pub range-requires-clause-end_boundary : goal.range-requires-clause-end_boundary
range-requires-clause-end_boundary c =
    let e = found_from is_quote c.as_bytes.result.now c.args.line.now c.args.from c.quote_at-len.result c.as_bytes.ensures.value c.quote_at-len.ensures in
    boundary_from is_quote c.args.line.now c.args.from c.quote_at-len.result is_quote_small c.requires.within e

pub returns-clause-lexeme : goal.returns-clause-lexeme
returns-clause-lexeme c =
    let e = found_from is_quote c.as_bytes.result.now c.args.line.now c.args.from c.quote_at-len.result c.as_bytes.ensures.value c.quote_at-len.ensures in
    let h = c.if-len-line.false in let w = within_from is_quote c.args.line.now c.args.from c.quote_at-len.result c.requires.within e in
    let p = value_part c.args.line.now c.range.result.now c.args.from c.quote_at-len.result c.range.ensures.value in
    let l : c.quote_at-len.result < length (drop c.args.from c.args.line.now) = omega (arith, length-drop c.args.from c.args.line.now) in
    rw (quoted_value_some c.args.name.now (drop c.args.from c.args.line.now) c.range.result.now c.quote_at-len.result e l p) c.in_ok-lexeme.ensures

pub returns-clause-end : goal.returns-clause-end
returns-clause-end c =
    let e = found_from is_quote c.as_bytes.result.now c.args.line.now c.args.from c.quote_at-len.result c.as_bytes.ensures.value c.quote_at-len.ensures in
    let h = c.if-len-line.false in let w = within_from is_quote c.args.line.now c.args.from c.quote_at-len.result c.requires.within e in
    let p = value_part c.args.line.now c.range.result.now c.args.from c.quote_at-len.result c.range.ensures.value in
    let l : c.quote_at-len.result < length (drop c.args.from c.args.line.now) = omega (arith, length-drop c.args.from c.args.line.now) in
    rw (quoted_value_some c.args.name.now (drop c.args.from c.args.line.now) c.range.result.now c.quote_at-len.result e l p) (add_assoc c.args.from c.quote_at-len.result 1)

pub returns-clause-boundary : goal.returns-clause-boundary
returns-clause-boundary c =
    let e = found_from is_quote c.as_bytes.result.now c.args.line.now c.args.from c.quote_at-len.result c.as_bytes.ensures.value c.quote_at-len.ensures in
    let h = c.if-len-line.false in let w = within_from is_quote c.args.line.now c.args.from c.quote_at-len.result c.requires.within e in
    behind_quote c.args.line.now c.args.from c.quote_at-len.result c.utf8.line c.requires.within e (omega arith)
