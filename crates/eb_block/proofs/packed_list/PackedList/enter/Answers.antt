use Rattle.std.proofs.Common.{◌≡◌, ◌⊎◌, ◌+◌, ◌-◌, ◌^◌, ◌≤◌, refl, ap, arith, inl, inr}
use Rattle.eb_place.specs.Packed.{packed}
use Rattle.eb_place.specs.Seen.{segment}
use Rattle.eb_block.specs.Reading.{packed_start}
use Rattle.eb_block.proofs.Reading.{can_enter, CanEnter}
use Rattle.eb_block.proofs.Standing.{stands_in}
use Rattle.eb_block.proofs.packed_list.PackedList.enter.Goals.{After-width_in-width}
use Rattle.eb_block.proofs.packed_list.PackedList.enter.Goals.{then-self-eq0, else-self-eq0}
use Rattle.eb_block.proofs.packed_list.PackedList.enter.Goals as goal

can : (c : After-width_in-width) → CanEnter (packed c.requires.reads.2 (segment c.requires.reads.0 c.requires.reads.1))
    (packed_start c.requires.reads.0 c.requires.reads.1 c.requires.reads.5.number) c.args.self.now c.requires.reads.3 c.requires.reads.4
can c =
    let r = c.requires.reads in
    can_enter (packed r.2 (segment r.0 r.1)) (packed_start r.0 r.1 r.5.number) c.args.self.now r.3 r.4 r.5.reads c.requires.loaded

pub overflow_add-self : goal.overflow_add-self
overflow_add-self c = let k = can c in omega (arith, k.room)

pub overflow_sub-self : goal.overflow_sub-self
overflow_sub-self c = let k = can (goal.at.overflow_sub-self c).After-width_in-width in omega (arith, k.some, c.count_in-count.ensures)

pub posting_in-self-requires : goal.posting_in-self-requires
posting_in-self-requires c = let k = can (goal.at.posting_in-self-requires c).After-width_in-width in k.small

pub overflow_add-self-2 : goal.overflow_add-self-2
overflow_add-self-2 c = let k = can (goal.at.overflow_add-self-2 c).After-width_in-width in omega (arith, k.room, c.width_in-width.ensures)

pub overflow_sub-self-2 : goal.overflow_sub-self-2
overflow_sub-self-2 c = let k = can (goal.at.overflow_sub-self-2 c).After-width_in-width in omega (arith, k.few, c.count_in-count.ensures)

pub returns-clause-told : goal.returns-clause-told
returns-clause-told c m s t rest b h =
    let p = c.args.self.now in
    stands_in m s t p _ rest b h c.requires.loaded (record {
      at = refl;
      held_bits = c.none-self.ensures.held;
      low = c.none-self.ensures.low;
      count = c.none-self.ensures.count;
      width = c.width_in-width.ensures;
      inside = ap (λ n. n - 1) c.count_in-count.ensures;
      last = c.posting_in-self.ensures;
      held = refl;
      next = omega (arith, c.width_in-width.ensures);
      header = refl;
      left = ap (λ n. p.left - n) c.count_in-count.ensures;
      near = elim c.if-self-eq0.branch as (λ w. (p.left - c.count_in-count.result ≡ 0) ⊎ (2 ^ 64 ≤ c.if-self-eq0.self + 1)) [
        | then-self-eq0 w ↦ inl w.if-self-eq0.true
        | else-self-eq0 w ↦ inr (omega (arith, w.self-is))
      ];
    })

pub returns-clause-less : goal.returns-clause-less
returns-clause-less c = let k = can (goal.at.returns-clause-less c).After-width_in-width in omega (arith, k.some, k.few, c.count_in-count.ensures)

pub returns-clause-count : goal.returns-clause-count
returns-clause-count c = let k = can (goal.at.returns-clause-count c).After-width_in-width in omega (arith, k.some, k.few, c.count_in-count.ensures)

pub returns-clause-full : goal.returns-clause-full
returns-clause-full c some = let k = can (goal.at.returns-clause-full c).After-width_in-width in omega (arith, k.full (omega (arith, c.count_in-count.ensures)), c.count_in-count.ensures)
