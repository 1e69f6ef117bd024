use Rattle.std.proofs.Common.{◌≡◌, ◌<◌, inl, inr, length, take, get_or, set, refl, false, ap, sym, subst, ◌∙◌, arith}
use Rattle.std.proofs.lemmas.Bool.{cases_eq}
use Rattle.std.proofs.lemmas.List.{get_or-set_same, get_or-set_other, length-set, get_or_default}
use Rattle.eb_blend.specs.Adding.{part_with, part_after, is_full}
use Rattle.eb_blend.proofs.Turns.{next_items, whole_front, part_after-nil, part_after-push}
use Rattle.eb_blend.proofs.adding.take_turn.Goals as goal

pub loop-at-init : goal.loop-at-init
loop-at-init g c = record {
  index = refl;
  docs = sym (part_after-nil _ c.args.index.now.setting c.args.parts c.args.part c.args.turn.now.writer.docs);
  long = refl;
  full = λ i x lt is. absurd (omega (arith, lt));
}

pub loop-at-preserved : goal.loop-at-preserved
loop-at-preserved g c =
    let inv = c.loop-at.invariant in
    let σ = c.args.index.now.setting in
    let n = c.loop-at.at in
    let items = c.args.items.now in
    let h = c.args.turn.now.writer.docs in
    let x = c.index-items-at.result in
    let e = c.add_item.ensures in
    let old = c.loop-at.turn.full.items in
    let lt : n < length items = omega (arith, c.loop-at-test.true) in
    let inside : n < length old = omega (arith, lt, inv.long, c.requires.room) in
    let now = e.full ∙ ap (λ d. is_full σ c.args.parts c.args.part d x) inv.docs in
    record {
      index = e.index ∙ inv.index;
      docs = e.docs ∙ ap (λ d. part_with σ c.args.parts c.args.part d x) inv.docs
          ∙ sym (ap (part_after σ c.args.parts c.args.part h) (next_items items n x lt c.index-items-at.is) ∙ part_after-push σ c.args.parts c.args.part h (take n items) x);
      long = length-set old n c.add_item.result ∙ inv.long;
      full = λ i y less is. elim (cases_eq i n) [
        | inl s ↦
            let same : y ≡ x = is ∙ ap (λ k. get_or items k y) s ∙ get_or_default items n y x lt ∙ sym c.index-items-at.is in
            subst (λ k. get_or (set old n c.add_item.result) k false ≡ is_full σ c.args.parts c.args.part (part_after σ c.args.parts c.args.part h (take k items)) y) (sym s)
            (get_or-set_same old n c.add_item.result false inside ∙ now ∙ ap (is_full σ c.args.parts c.args.part (part_after σ c.args.parts c.args.part h (take n items))) (sym same))
        | inr ne ↦ get_or-set_other old n i c.add_item.result false ne ∙ inv.full i y (omega (arith, less, ne)) is
      ];
    }

pub returns : goal.returns
returns g c =
    let inv = c.loop-at.invariant in
    record {
      index = inv.index;
      docs = inv.docs ∙ ap (part_after c.args.index.now.setting c.args.parts c.args.part c.args.turn.now.writer.docs) (whole_front c.args.items.now c.loop-at.at c.loop-at-test.false);
      long = inv.long;
      full = λ i x lt is. inv.full i x (omega (arith, lt, c.loop-at-test.false)) is;
    }
