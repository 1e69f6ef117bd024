use Rattle.std.proofs.Common.{ℕ, arith, ◌∙◌, ap, drop}
use Rattle.eb_query.specs.Number.{is_blank_or_end}
use Rattle.eb_query.proofs.Values.{digits_within, apart_boundary}
use Rattle.eb_query.proofs.head.newest_head.Goals as goal

pub returns-clause-end : goal.returns-clause-end
returns-clause-end c =
    let e = rw c.as_bytes.ensures.value at c.in_ok-number.ensures.end in let w = digits_within c.args.line.now c.requires in omega arith

pub returns-clause-boundary : goal.returns-clause-boundary
returns-clause-boundary c =
    let h = rw c.as_bytes.ensures.value at c.in_ok-number.ensures.some in
    let e = rw c.as_bytes.ensures.value at c.in_ok-number.ensures.end in
    let w = digits_within c.args.line.now c.requires in
    apart_boundary c.args.line.now c.in_ok-number.number.end (omega arith) (ap (λ (k : ℕ). is_blank_or_end (drop k c.args.line.now)) e ∙ h.up_to.apart)
