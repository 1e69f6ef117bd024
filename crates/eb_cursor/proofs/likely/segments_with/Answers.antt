use Rattle.std.proofs.Common.{ℕ, Bool, List, sym, ◌∙◌, subst, arith}
use Rattle.std.proofs.lemmas.Bool.{false≢true}
use Rattle.eb_place.proofs.LaterMoments.{later_on, later_self}
use Rattle.eb_cursor.proofs.Absent.{IsNext, all_kept, one_out, one_told, one_filled}
use Rattle.eb_cursor.proofs.likely.segments_with.Goals.{then-not-may_be_entered, else-not-may_be_entered}
use Rattle.eb_cursor.proofs.likely.segments_with.Goals as goal

pub loop-segment-init : goal.loop-segment-init
loop-segment-init g c = record {
  told = λ m st. (
    m,
    st,
    later_self m,
    g.met.P.Port.keeps_itself c.args.port.now m st,
    (λ s no there. absurd (false≢true (sym no ∙ c.all-likely.ensures s))),
    (λ s low. absurd (omega (arith, low))),
  );
  loads = omega arith;
}

pub loop-segment-preserved : goal.loop-segment-preserved
loop-segment-preserved g c =
    let inv = c.loop-segment.invariant in
    let old : List Bool = c.loop-segment.likely in
    let k : ℕ = c.loop-segment.segment in
    let b : Bool = c.may_be_entered.result in
    let next : IsNext old c.if-not-may_be_entered.likely k b = elim c.if-not-may_be_entered.branch [
      | then-not-may_be_entered w ↦ subst (λ z. IsNext old z k b) (sym w.likely-is)
          (one_out old w.without-likely.result k b w.if-not-may_be_entered.true w.without-likely.ensures.out w.without-likely.ensures.others)
      | else-not-may_be_entered w ↦ subst (λ z. IsNext old z k b) (sym w.likely-is) (all_kept old k b w.if-not-may_be_entered.false)
    ] in
    record {
      told = λ m st.
          let x = inv.told m st in
          let y = c.may_be_entered.ensures.told x.0 x.1 in
          let l = later_on m x.0 y.0 x.2 y.2 in (
            y.0,
            y.1,
            l,
            g.met.P.Port.keeps_on _ _ _ m x.0 y.0 x.3 y.3,
            one_told m y.0 c.args.term.now old c.if-not-may_be_entered.likely k b l y.4 next x.4,
            one_filled x.0 y.0 c.args.term.now old c.if-not-may_be_entered.likely k b
                (g.met.P.Port.lawful c.loop-segment.port x.0 x.1) (g.met.P.Port.lawful c.may_be_entered.new.port y.0 y.1) y.2 y.5 y.6 next x.5,
          );
      loads = omega (arith, inv.loads, c.may_be_entered.ensures.step);
    }
