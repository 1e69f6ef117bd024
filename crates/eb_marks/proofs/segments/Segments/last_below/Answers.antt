use Rattle.std.proofs.Common.{◌≡◌, ◌-◌, true, false, get_or, subst, sym, arith}
use Rattle.std.specs.Int.Count.{count_leading_zeros}
use Rattle.eb_marks.specs.Members.{IsLast}
use Rattle.eb_marks.proofs.Lasts.{AreBelow, all_below, are_below, last_is, none_is}
use Rattle.eb_marks.proofs.segments.Segments.last_below.Goals.{then-end-lt64, else-end-lt64}
use Rattle.eb_marks.proofs.segments.Segments.last_below.Goals as goal

pub returns-then-below-eq0 : goal.returns-then-below-eq0
returns-then-below-eq0 c s low =
    let n = c.self.inside.bits in
    let end = c.args.end in
    let h : AreBelow n end c.if-end-lt64.below = elim c.if-end-lt64.branch [
      | then-end-lt64 w ↦ subst (AreBelow n end) (sym w.below-is) (are_below n end c.self.invariant w.if-end-lt64.true)
      | else-end-lt64 w ↦ subst (AreBelow n end) (sym w.below-is) (all_below n end c.self.invariant (omega (arith, w.if-end-lt64.false)))
    ] in
    subst (λ z. get_or z s true ≡ false) c.self.view_is (none_is n end c.if-end-lt64.below c.requires h c.if-below-eq0.true s low)

pub returns : goal.returns
returns c =
    let n = c.self.inside.bits in
    let end = c.args.end in
    let h : AreBelow n end c.if-end-lt64.below = elim c.if-end-lt64.branch [
      | then-end-lt64 w ↦ subst (AreBelow n end) (sym w.below-is) (are_below n end c.self.invariant w.if-end-lt64.true)
      | else-end-lt64 w ↦ subst (AreBelow n end) (sym w.below-is) (all_below n end c.self.invariant (omega (arith, w.if-end-lt64.false)))
    ] in
    subst (λ z. IsLast z end (63 - count_leading_zeros 64 c.if-end-lt64.below)) c.self.view_is (last_is n end c.if-end-lt64.below c.requires h c.if-below-eq0.false)
