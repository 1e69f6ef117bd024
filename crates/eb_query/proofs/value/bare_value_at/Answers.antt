use Rattle.std.proofs.Common.{ℕ, ◌+◌, drop, ap, sym, arith}
use Rattle.eb_query.specs.Grammar.{Lexeme}
use Rattle.eb_query.specs.Lexemes.{ends_run}
use Rattle.eb_query.proofs.Cuts.{ends_run_small}
use Rattle.eb_query.proofs.FieldValues.{found_from, within_from, boundary_from, value_part, bare_none, bare_some}
use Rattle.eb_query.proofs.value.bare_value_at.Goals as goal

pub returns-then-len-eq0-clause-lexeme : goal.returns-then-len-eq0-clause-lexeme
returns-then-len-eq0-clause-lexeme c =
    let e = found_from ends_run c.as_bytes.result.now c.args.line.now c.args.from c.run_len-len.result c.as_bytes.ensures.value c.run_len-len.ensures in
    sym (ap (λ (p : Lexeme × ℕ). p.0) (bare_none c.args.name.now (drop c.args.from c.args.line.now) c.run_len-len.result e c.if-len-eq0.true))

pub returns-then-len-eq0-clause-end : goal.returns-then-len-eq0-clause-end
returns-then-len-eq0-clause-end c =
    let e = found_from ends_run c.as_bytes.result.now c.args.line.now c.args.from c.run_len-len.result c.as_bytes.ensures.value c.run_len-len.ensures in
    rw (bare_none c.args.name.now (drop c.args.from c.args.line.now) c.run_len-len.result e c.if-len-eq0.true) (omega arith)

pub overflow_add-end : goal.overflow_add-end
overflow_add-end c =
    let e = found_from ends_run c.as_bytes.result.now c.args.line.now c.args.from c.run_len-len.result c.as_bytes.ensures.value c.run_len-len.ensures in
    let w = within_from ends_run c.args.line.now c.args.from c.run_len-len.result c.requires.within e in
    let m = c.type_inv.line in omega arith

pub range-requires-clause-end_boundary : goal.range-requires-clause-end_boundary
range-requires-clause-end_boundary c =
    let e = found_from ends_run c.as_bytes.result.now c.args.line.now c.args.from c.run_len-len.result c.as_bytes.ensures.value c.run_len-len.ensures in
    boundary_from ends_run c.args.line.now c.args.from c.run_len-len.result ends_run_small c.requires.within e

pub returns-clause-lexeme : goal.returns-clause-lexeme
returns-clause-lexeme c =
    let e = found_from ends_run c.as_bytes.result.now c.args.line.now c.args.from c.run_len-len.result c.as_bytes.ensures.value c.run_len-len.ensures in
    let p = value_part c.args.line.now c.range.result.now c.args.from c.run_len-len.result c.range.ensures.value in
    rw (bare_some c.args.name.now (drop c.args.from c.args.line.now) c.range.result.now c.run_len-len.result e c.if-len-eq0.false p) c.in_ok-lexeme.ensures

pub returns-clause-end : goal.returns-clause-end
returns-clause-end c =
    let e = found_from ends_run c.as_bytes.result.now c.args.line.now c.args.from c.run_len-len.result c.as_bytes.ensures.value c.run_len-len.ensures in
    let p = value_part c.args.line.now c.range.result.now c.args.from c.run_len-len.result c.range.ensures.value in
    ap (λ (x : Lexeme × ℕ). c.args.from + x.1) (sym (bare_some c.args.name.now (drop c.args.from c.args.line.now) c.range.result.now c.run_len-len.result e c.if-len-eq0.false p))

pub returns-clause-boundary : goal.returns-clause-boundary
returns-clause-boundary c =
    let e = found_from ends_run c.as_bytes.result.now c.args.line.now c.args.from c.run_len-len.result c.as_bytes.ensures.value c.run_len-len.ensures in
    boundary_from ends_run c.args.line.now c.args.from c.run_len-len.result ends_run_small c.requires.within e
