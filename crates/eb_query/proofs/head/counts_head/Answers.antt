use Rattle.std.proofs.Common.{◌≡◌, ℕ, ◌+◌, arith, sym, ◌∙◌, ap, Option, Some, None}
use Rattle.std.specs.Prelude.{IfNone}
use Rattle.eb_query.specs.Head.{counts_in, range_text}
use Rattle.eb_query.proofs.Heads.{after_mark, blank_within, blank_boundary, range_len_is, range_text_is}
use Rattle.eb_query.proofs.head.counts_head.Goals as goal

pub overflow_add-end : goal.overflow_add-end
overflow_add-end c =
    let w = blank_within c.args.line.now c.requires c.as_bytes.result.now c.blank_at-end.result c.as_bytes.ensures.value c.blank_at-end.ensures in
    let m = c.type_inv.line in omega arith

pub range-requires-clause-start_boundary : goal.range-requires-clause-start_boundary
range-requires-clause-start_boundary c = λ _. after_mark c.args.line.now c.requires c.utf8.line

pub range-requires-clause-end_boundary : goal.range-requires-clause-end_boundary
range-requires-clause-end_boundary c = blank_boundary c.args.line.now c.requires c.as_bytes.result.now c.blank_at-end.result c.as_bytes.ensures.value c.blank_at-end.ensures

pub returns-in_err-ask-clause-none : goal.returns-in_err-ask-clause-none
returns-in_err-ask-clause-none c =
    let text = range_text_is c.args.line.now c.requires c.as_bytes.result.now c.blank_at-end.result c.as_bytes.ensures.value c.blank_at-end.ensures c.range.result.now c.range.ensures.value in
    let none : counts_in (range_text c.args.line.now) ≡ None = ap counts_in (sym text) ∙ sym c.read_counts.ensures ∙ c.in_err-ask.was in
    given c.from_residual.result (λ a n h. let no = sym none ∙ h.0 in cc)
  where
    given : {T : Type 0} {P : Type 0} (r : Option T) → P → IfNone r P
    given None p = p
    given (Some x) p = tt

pub returns-clause-some : goal.returns-clause-some
returns-clause-some c =
    let text = range_text_is c.args.line.now c.requires c.as_bytes.result.now c.blank_at-end.result c.as_bytes.ensures.value c.blank_at-end.ensures c.range.result.now c.range.ensures.value in
    let len = range_len_is c.args.line.now c.requires c.as_bytes.result.now c.blank_at-end.result c.as_bytes.ensures.value c.blank_at-end.ensures in
    (ap counts_in (sym text) ∙ sym c.read_counts.ensures ∙ c.in_ok-ask.was, ap (λ (k : ℕ). 1 + k) len)

pub returns-clause-boundary : goal.returns-clause-boundary
returns-clause-boundary c = blank_boundary c.args.line.now c.requires c.as_bytes.result.now c.blank_at-end.result c.as_bytes.ensures.value c.blank_at-end.ensures
