use Rattle.std.proofs.Common.{◌≡◌, ◌<◌, [], ◌∷◌, take, length, ap, sym, ◌∙◌, subst, arith}
use Rattle.eb_blend.specs.Adding.{IsRising, AreRising, newest, newest_of}
use Rattle.eb_blend.proofs.Turns.{none_of, next_items, newest_of-nil, newest_of-push, rising-nil, rising-push}
use Rattle.eb_blend.proofs.adding.rising_front.Goals as goal

pub loop-at-init : goal.loop-at-init
loop-at-init g c =
    let last = c.args.last in
    let x = c.index-items-0.result in
    let one : take 1 c.args.items.now ≡ x ∷ [] = next_items c.args.items.now 0 x c.requires.some c.index-items-0.is in
    record {
      some = omega arith;
      last = c.newest_id-last.ensures ∙ ap (λ l. newest l x) (sym (newest_of-nil _ last)) ∙ sym (newest_of-push last [] x) ∙ ap (newest_of last) (sym one);
      rising = subst (AreRising last) (sym one)
          (rising-push last [] x (rising-nil _ last) (subst (λ l. IsRising l x) (sym (newest_of-nil _ last)) (c.requires.first x c.index-items-0.is)));
    }

pub loop-at-preserved : goal.loop-at-preserved
loop-at-preserved g c =
    let last = c.args.last in
    let n = c.loop-at.at in
    let items = c.args.items.now in
    let inv = c.loop-at.invariant in
    let x = c.index-items-at.result in
    let lt : n < length items = omega (arith, c.loop-at-test.true) in
    let more = next_items items n x lt c.index-items-at.is in
    let up : IsRising c.loop-at.last x = c.low_id.ensures.none (none_of c.low_id.result (sym c.is_some.ensures ∙ c.if-is_some.false)) in
    let y = c.index-items-at-in-loop-at.result in
    record {
      some = omega arith;
      last = c.newest_id-last-in-loop-at.ensures ∙ ap (λ l. newest l y) inv.last
          ∙ sym (ap (newest_of last) (next_items items n y lt c.index-items-at-in-loop-at.is) ∙ newest_of-push last (take n items) y);
      rising = subst (AreRising last) (sym more) (rising-push last (take n items) x inv.rising (subst (λ l. IsRising l x) inv.last up));
    }
