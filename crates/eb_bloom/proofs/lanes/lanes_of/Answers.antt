use Rattle.std.proofs.Common.{◌≡◌, ◌+◌, ◌-◌, suc, ap, sym, ◌∙◌, arith, subst}
use Rattle.eb_bloom.specs.Bits.{doubled}
use Rattle.eb_bloom.proofs.Doubled.{IsLane, twice, grown, kept}
use Rattle.eb_bloom.proofs.lanes.lanes_of.Goals.{then-lanes-segments, else-lanes-segments}
use Rattle.eb_bloom.proofs.lanes.lanes_of.Goals as goal

pub loop-step-preserved : goal.loop-step-preserved
loop-step-preserved c =
    let inv = c.loop-step.invariant in
    let n = c.args.segments in
    let old = c.loop-step.lanes in
    let k = 6 - (c.loop-step._step + 1) in
    let one : 6 - c.loop-step._step ≡ suc k = omega (arith, c.loop-step-test.true) in
    let was : doubled (suc k) old n ≡ doubled 6 1 n = ap (λ z. doubled z old n) (sym one) ∙ inv.same in
    elim c.if-lanes-segments.branch [
      | then-lanes-segments w ↦ record {
        same = ap (λ z. doubled k z n) w.lanes-is ∙ sym (grown k old n w.if-lanes-segments.true) ∙ was;
        lane = subst IsLane (sym w.lanes-is) (twice old n c.requires w.if-lanes-segments.true inv.lane);
      }
      | else-lanes-segments w ↦ record {
        same = ap (λ z. doubled k z n) w.lanes-is ∙ sym (kept k old n (omega (arith, w.if-lanes-segments.false))) ∙ was;
        lane = subst IsLane (sym w.lanes-is) inv.lane;
      }
    ]

pub returns : goal.returns
unfolding doubled
returns c = let none : 6 - c.loop-step._step ≡ 0 = omega (arith, c.loop-step-test.false) in ap (λ z. doubled z c.loop-step.lanes c.args.segments) (sym none) ∙ c.loop-step.invariant.same
