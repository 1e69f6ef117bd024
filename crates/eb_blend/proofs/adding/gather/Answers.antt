use Rattle.std.proofs.Common.{◌≡◌, ◌+◌, ◌<◌, [], ◌∷◌, ◌++◌, take, length, ap, ap₂, sym, ◌∙◌, arith, append_assoc, append-nil}
use Rattle.std.proofs.lemmas.List.{get_or_default}
use Rattle.eb_blend.specs.Adding.{fulls_of, told_item, told_from, last_after, last_from}
use Rattle.eb_blend.proofs.Turns.{next_items, long_front, whole_front, told_from-nil, told_from-push, last_from-nil, last_from-push}
use Rattle.eb_blend.proofs.adding.gather.Goals as goal

pub loop-at-init : goal.loop-at-init
loop-at-init g c =
    let fulls = fulls_of c.args.turns.now in
    record {
      outcomes = sym (ap (λ z. c.args.outcomes.now.items ++ z) (told_from-nil _ fulls 0) ∙ append-nil c.args.outcomes.now.items);
      len = omega arith;
      capacity = omega arith;
      last = sym (last_from-nil _ fulls 0 c.args.last);
    }

pub loop-at-preserved : goal.loop-at-preserved
loop-at-preserved g c =
    let fulls = fulls_of c.args.turns.now in
    let n = c.loop-at.at in
    let items = c.args.items.now in
    let inv = c.loop-at.invariant in
    let x = c.index-items-at.result in
    let lt : n < length items = omega (arith, c.loop-at-test.true) in
    let front = take n items in
    let more = next_items items n x lt c.index-items-at.is in
    let at : n ≡ 0 + length front = let l = long_front items n (omega (arith, lt)) in omega (arith, l) in
    let y = c.index-items-at-in-loop-at.result in
    let same : x ≡ y = c.index-items-at.is ∙ get_or_default items n x y lt ∙ sym c.index-items-at-in-loop-at.is in
    let outs = c.args.outcomes.now.items in
    let put = c.push_reserved.ensures in
    record {
      outcomes = put.items ∙ ap₂ (λ z o. z ++ o ∷ []) inv.outcomes c.told_of-outcome.ensures ∙ append_assoc outs (told_from fulls 0 front) (told_item fulls n x ∷ [])
          ∙ ap (λ z. outs ++ z) (sym (ap (told_from fulls 0) more ∙ told_from-push fulls 0 front x n at));
      len = omega (arith, inv.len, put.len);
      capacity = omega (arith, inv.capacity, put.capacity);
      last = c.last_id-last.ensures ∙ ap₂ (λ o l. last_after o l y) (c.told_of-outcome.ensures ∙ ap (told_item fulls n) same) inv.last
          ∙ sym (ap (last_from fulls 0 c.args.last) (next_items items n y lt c.index-items-at-in-loop-at.is) ∙ last_from-push fulls 0 c.args.last front y n at);
    }

pub returns : goal.returns
returns g c =
    let fulls = fulls_of c.args.turns.now in
    let inv = c.loop-at.invariant in
    let all = whole_front c.args.items.now c.loop-at.at c.loop-at-test.false in
    let end : c.loop-at.at ≡ length c.args.items.now = omega (arith, c.loop-at-test.false, c.loop-at.auto.at-end) in
    record {
      outcomes = inv.outcomes ∙ ap (λ z. c.args.outcomes.now.items ++ told_from fulls 0 z) all;
      len = omega (arith, inv.len, end);
      capacity = inv.capacity;
      last = inv.last ∙ ap (last_from fulls 0 c.args.last) all;
    }
