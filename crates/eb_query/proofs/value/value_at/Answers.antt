use Rattle.std.proofs.Common.{◌+◌, drop, sym, ◌∙◌, arith, add_assoc}
use Rattle.std.proofs.lemmas.Str.{IsCharBoundary-after_ascii}
use Rattle.eb_query.specs.Lexemes.{quoted_value}
use Rattle.eb_query.proofs.FieldValues.{quote_here, value_quoted, value_bare}
use Rattle.eb_query.proofs.value.value_at.Goals as goal

pub quoted_value_at-requires-clause-within : goal.quoted_value_at-requires-clause-within
quoted_value_at-requires-clause-within c =
    let h = rw c.as_bytes.ensures.value at (sym c.has_quote_at.ensures ∙ c.if-has_quote_at.true) in
    let q = quote_here c.args.line.now c.args.from c.requires.within h in let l = q.0 in omega arith

pub quoted_value_at-requires-clause-boundary : goal.quoted_value_at-requires-clause-boundary
quoted_value_at-requires-clause-boundary c =
    let h = rw c.as_bytes.ensures.value at (sym c.has_quote_at.ensures ∙ c.if-has_quote_at.true) in
    let q = quote_here c.args.line.now c.args.from c.requires.within h in
    IsCharBoundary-after_ascii c.args.line.now c.args.from c.utf8.line q.0 q.1

pub returns-then-has_quote_at-clause-lexeme : goal.returns-then-has_quote_at-clause-lexeme
returns-then-has_quote_at-clause-lexeme c =
    let h = rw c.as_bytes.ensures.value at (sym c.has_quote_at.ensures ∙ c.if-has_quote_at.true) in
    rw (value_quoted c.args.name.now c.args.line.now c.args.from h) c.quoted_value_at.ensures.lexeme

pub returns-then-has_quote_at-clause-end : goal.returns-then-has_quote_at-clause-end
returns-then-has_quote_at-clause-end c =
    let h = rw c.as_bytes.ensures.value at (sym c.has_quote_at.ensures ∙ c.if-has_quote_at.true) in
    let n = (quoted_value c.args.name.now (drop (c.args.from + 1) c.args.line.now)).1 in
    rw (value_quoted c.args.name.now c.args.line.now c.args.from h, ← add_assoc c.args.from 1 n) c.quoted_value_at.ensures.end

pub returns-clause-lexeme : goal.returns-clause-lexeme
returns-clause-lexeme c =
    let h = rw c.as_bytes.ensures.value at (sym c.has_quote_at.ensures ∙ c.if-has_quote_at.false) in
    rw (value_bare c.args.name.now (drop c.args.from c.args.line.now) h) c.bare_value_at.ensures.lexeme

pub returns-clause-end : goal.returns-clause-end
returns-clause-end c =
    let h = rw c.as_bytes.ensures.value at (sym c.has_quote_at.ensures ∙ c.if-has_quote_at.false) in
    rw (value_bare c.args.name.now (drop c.args.from c.args.line.now) h) c.bare_value_at.ensures.end
