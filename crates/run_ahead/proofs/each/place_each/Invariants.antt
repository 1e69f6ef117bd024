use Rattle.std.proofs.Common.{◌≡◌, ◌-◌, ◌≤◌, length, take}
use Rattle.std.specs.Prelude.{vec_len, vec_capacity}
use Rattle.run_ahead.specs.Placed.{IsHoldingFor, PlacesAll}
use Rattle.run_ahead.proofs.each.place_each.Given as goal

abbrev pub invariant-loop-item : goal.invariant-loop-item
invariant-loop-item g l = record {
  holding : IsHoldingFor g.S.Store.holds l.store (length l.items - l.item-index);
  placed : PlacesAll g.S.Store.holds l.initial.store l.store (take l.item-index l.items) l.refusals.items;
  len : vec_len l.refusals ≡ l.item-index;
  room : length l.items ≤ vec_capacity l.refusals;
}
