use Rattle.eb_fields.specs.Dialect.{dialect_of}
use Rattle.std.proofs.Common.{◌∙◌, drop, sym, arith}
use Rattle.eb_query.proofs.Cuts.{quoted_text, no_tilde_len}
use Rattle.eb_query.proofs.Leaves.{tilde_boundary, closed_window, closed_end}
use Rattle.eb_query.proofs.quoted.closed_at.Goals as goal

pub window_at-requires-clause-boundary : goal.window_at-requires-clause-boundary
window_at-requires-clause-boundary c =
    let t = rw c.as_bytes.ensures.value at (sym c.has_tilde_at.ensures ∙ c.if-has_tilde_at.true) in
    tilde_boundary c.args.line.now c.args.behind c.utf8.line c.requires.within t

pub returns-then-has_tilde_at-clause-lexeme : goal.returns-then-has_tilde_at-clause-lexeme
returns-then-has_tilde_at-clause-lexeme c =
    let t = rw c.as_bytes.ensures.value at (sym c.has_tilde_at.ensures ∙ c.if-has_tilde_at.true) in
    rw (closed_window (dialect_of c.args.dialect.now) c.args.text.now c.args.line.now c.args.behind t) c.window_at.ensures.lexeme

pub returns-then-has_tilde_at-clause-end : goal.returns-then-has_tilde_at-clause-end
returns-then-has_tilde_at-clause-end c =
    let t = rw c.as_bytes.ensures.value at (sym c.has_tilde_at.ensures ∙ c.if-has_tilde_at.true) in
    rw (closed_end c.args.line.now c.args.behind t) c.window_at.ensures.end

pub returns-clause-lexeme : goal.returns-clause-lexeme
returns-clause-lexeme c =
    let t = rw c.as_bytes.ensures.value at (sym c.has_tilde_at.ensures ∙ c.if-has_tilde_at.false) in
    c.in_ok-lexeme.ensures ∙ sym (quoted_text (dialect_of c.args.dialect.now) c.args.text.now (drop c.args.behind c.args.line.now) t)

pub returns-clause-end : goal.returns-clause-end
returns-clause-end c =
    let t = rw c.as_bytes.ensures.value at (sym c.has_tilde_at.ensures ∙ c.if-has_tilde_at.false) in
    let none = no_tilde_len (drop c.args.behind c.args.line.now) t in omega (arith, none)
