use Rattle.std.proofs.Common.{◌≡◌, ◌-◌, ◌%◌, ◌^◌, ◌≤◌, ℕ, List, refl, ap, sym, arith, inr}
use Rattle.eb_base.specs.Term.{Term}
use Rattle.eb_place.specs.declared.moment.Moment.{Moment}
use Rattle.eb_place.specs.Packed.{packed}
use Rattle.eb_place.specs.Seen.{segment}
use Rattle.eb_block.specs.Reading.{ListStands, packed_start}
use Rattle.eb_block.specs.declared.packed_list.PackedList.{PackedList}
use Rattle.eb_block.proofs.Reading.{can_enter, CanEnter}
use Rattle.eb_block.proofs.Standing.{stands_in}
use Rattle.eb_block.proofs.packed_list.PackedList.enter_like.Goals as goal

can : (m : Moment) (s : ℕ) (t : Term) (p : PackedList) (rest : List ℕ) (b : ℕ) → (h : ListStands m s t p rest b) → 1 ≤ p.header
    → CanEnter (packed t (segment m s)) (packed_start m s h.number) p rest b
can m s t p rest b h l = can_enter (packed t (segment m s)) (packed_start m s h.number) p rest b h.reads l

pub posting_in-last-requires : goal.posting_in-last-requires
posting_in-last-requires c = let r = c.requires.reads in (can r.0 r.1 r.2 c.args.self.now r.3 r.4 r.5 c.requires.loaded).small

pub overflow_add-self : goal.overflow_add-self
overflow_add-self c = let r = c.requires.reads in omega (arith, (can r.0 r.1 r.2 c.args.self.now r.3 r.4 r.5 c.requires.loaded).room)

pub overflow_mul-self : goal.overflow_mul-self
overflow_mul-self c = let r = c.requires.reads in omega (arith, (can r.0 r.1 r.2 c.args.self.now r.3 r.4 r.5 c.requires.loaded).room, c.requires.alike)

pub overflow_add-self-2 : goal.overflow_add-self-2
overflow_add-self-2 c = let r = c.requires.reads in omega (arith, (can r.0 r.1 r.2 c.args.self.now r.3 r.4 r.5 c.requires.loaded).room, c.requires.alike)

pub returns-clause-told : goal.returns-clause-told
returns-clause-told c m s t rest b h =
    let p = c.args.self.now in
    let k = can m s t p rest b h c.requires.loaded in
    let whole : p.header % 2 ^ 8 ≡ 128 = k.full (omega (arith, k.short, c.requires.many)) in
    stands_in m s t p _ rest b h c.requires.loaded (record {
      at = refl;
      held_bits = c.none-self.ensures.held;
      low = c.none-self.ensures.low;
      count = c.none-self.ensures.count;
      width = sym c.requires.alike;
      inside = sym (ap (λ n. n - 1) whole);
      last = c.posting_in-last.ensures;
      held = refl;
      next = omega (arith, c.requires.alike);
      header = refl;
      left = sym (ap (λ n. p.left - n) whole);
      near = inr (omega arith);
    })
