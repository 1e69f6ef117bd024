use Rattle.std.proofs.Common.{◌≡◌, ℕ, zero, suc, ◌+◌, ◌-◌, ◌<◌, ◌≤◌, ◌%◌, arith, subst, refl}
use Rattle.eb_place.specs.Postings.{places}
use Rattle.eb_cursor.specs.Tops.{top}
use Rattle.eb_cursor.specs.Posted.{has_places}
use Rattle.eb_cursor.proofs.Phrases.{room_here, room_past}
use Rattle.eb_cursor.proofs.phrase.room_below.Goals as goal

room_over_at : (n x y : ℕ) → y ≡ x → n ≤ places → 0 < n → places < y % places + n → suc x - (y % places + n - places) ≡ top (has_places n) (suc x)
room_over_at n x y e i p k = let j : places < x % places + n = subst (λ z. places < z % places + n) e k in rw e (room_past n x (x % places + n - places) i p (omega arith))

room_over : (n end : ℕ) → (end ≡ 0 → ⊥) → n ≤ places → 0 < n → places < (end - 1) % places + n → end - ((end - 1) % places + n - places) ≡ top (has_places n) end
room_over n zero h i p k = absurd (h refl)
room_over n (suc x) h i p k = room_over_at n x (suc x - 1) (omega arith) i p k

room_in : (n end : ℕ) → (end ≡ 0 → ⊥) → (end - 1) % places + n ≤ places → end ≡ top (has_places n) end
room_in n zero h k = absurd (h refl)
room_in n (suc x) h k = let m : suc x - 1 ≡ x = omega arith in room_here n x (subst (λ y. y % places + n ≤ places) m k)

pub returns-then-over-le-PLACES : goal.returns-then-over-le-PLACES
returns-then-over-le-PLACES c = room_in c.args.count c.args.end c.if-end-eq0.false c.if-over-le-PLACES.true

pub returns : goal.returns
returns c = room_over c.args.count c.args.end c.if-end-eq0.false c.requires.1 c.requires.0 c.if-over-le-PLACES.false
