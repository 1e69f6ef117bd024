use Rattle.std.proofs.Common.{◌≡◌, ◌+◌, List, [], ◌∷◌, ◌++◌, length, take, Option, sym, ap, subst, ◌∙◌, arith}
use Rattle.std.proofs.lemmas.List.{take_more}
use Rattle.eb_lines.specs.declared.refusal.Refusal.{Refusal}
use Rattle.run_ahead.specs.Placed.{PlacesAll}
use Rattle.run_ahead.proofs.Placings.{places_none, places_push, holding_now, holding_on, with_none, placed_by}
use Rattle.run_ahead.proofs.each.place_each.Goals as goal

pub loop-item-init : goal.loop-item-init
loop-item-init g c = record {
  holding = with_none g.S.Store.holds c.args.store.now (length c.args.items.now) c.requires;
  placed = subst (λ (rs : List (Option Refusal)). PlacesAll g.S.Store.holds c.args.store.now c.args.store.now [] rs) (sym c.in_ok-refusals.ensures.items)
      (places_none g.S.Store.holds _ c.args.store.now);
  len = c.in_ok-refusals.ensures.len;
  room = c.in_ok-refusals.ensures.capacity;
}

pub place_item-refusal-requires : goal.place_item-refusal-requires
place_item-refusal-requires g c = holding_now g.S.Store.holds c.loop-item.store _ c.loop-item.invariant.holding

pub loop-item-preserved : goal.loop-item-preserved
loop-item-preserved g c =
    let i = c.loop-item.item-index in
    let items = c.args.items.now in
    let item = c.item-item.result in
    let inv = c.loop-item.invariant in
    let now = c.place_item-refusal.new.store in
    let placed = places_push g.S.Store.holds c.args.store.now c.loop-item.store c.place_item-refusal.new.store (take i items) item c.loop-item.refusals.items
    c.place_item-refusal.result inv.placed c.place_item-refusal.ensures in
    let next : take (i + 1) items ≡ take i items ++ item ∷ [] = take_more items i item c.loop-item-test.true ∙ ap (λ x. take i items ++ x ∷ []) (sym c.item-item.is) in
    record {
      holding = holding_on g.S.Store.holds c.loop-item.store c.place_item-refusal.new.store item c.place_item-refusal.result _ _ (omega (arith, c.loop-item-test.true)) inv.holding
          c.place_item-refusal.ensures;
      placed = placed_by g.S.Store.holds c.args.store.now now _ _ _ _ next c.push_reserved.ensures.items placed;
      len = omega (arith, c.push_reserved.ensures.len, inv.len);
      room = omega (arith, c.push_reserved.ensures.capacity, inv.room);
    }
