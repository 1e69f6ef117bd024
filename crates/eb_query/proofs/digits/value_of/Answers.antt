use Rattle.std.proofs.Common.{arith, ◌∙◌, sym, refl, ap, ℕ, ◌+◌, ◌*◌, drop}
use Rattle.eb_fields.specs.Digits.{decimal_after}
use Rattle.eb_query.proofs.Values.{cap, cap_next, cap_small, value_next}
use Rattle.eb_query.proofs.digits.value_of.Goals as goal

pub loop-digit-init : goal.loop-digit-init
unfolding cap
loop-digit-init c = record { told = refl; small = omega arith }

pub overflow_mul-value : goal.overflow_mul-value
overflow_mul-value c =
    let q = c.requires in let t = c.loop-digit-test.true in
    let h = cap_small c.loop-digit.digit-index (omega arith) in let k = c.loop-digit.invariant.small in omega arith

pub overflow_add-value : goal.overflow_add-value
overflow_add-value c =
    let q = c.requires in let t = c.loop-digit-test.true in let e = c.from.ensures in let f = c.saturating_sub.ensures in
    let h = cap_small c.loop-digit.digit-index (omega arith) in let k = c.loop-digit.invariant.small in
    let d = c.type_inv.digits c.loop-digit.digit-index in omega arith

pub loop-digit-preserved : goal.loop-digit-preserved
loop-digit-preserved c =
    let e = c.from.ensures in let f = c.saturating_sub.ensures in let k = c.loop-digit.invariant.small in
    let d = c.type_inv.digits c.loop-digit.digit-index in let n = cap_next c.loop-digit.digit-index in
    record {
      told = ap (λ (x : ℕ). decimal_after (10 * c.loop-digit.value + x) (drop (c.loop-digit.digit-index + 1) c.args.digits.now)) (e ∙ f)
          ∙ sym (value_next c.args.digits.now c.loop-digit.digit-index c.loop-digit.value _ c.loop-digit-test.true refl) ∙ c.loop-digit.invariant.told;
      small = omega arith;
    }
