-- Where a posting begins a slice, by a number of postings like that of its term.
use Rattle.std.proofs.Common.{◌≡◌, ℕ, ◌+◌, ◌-◌, ◌%◌, ◌==◌, ◌&&◌, ◌∙◌, arith, nat_le}
use Rattle.std.proofs.lemmas.Bool.Decides.{nat_tests}
use Rattle.eb_place.specs.Address.{pool_at, offset_at, slice_start, begins_in}
use Rattle.eb_chain.specs.Needs.{HasLike}

-- n postings more on both sides
pub like_on : (f g n : ℕ) → HasLike f g → HasLike (f + n) (g + n)
like_on f g n h = record { full = h.full; same = omega (arith, h.same); last = λ l. omega (arith, h.last l) }

begun_0_alone : (f : ℕ) → begins_in 0 f ≡ (f == 0)
unfolding pool_at offset_at slice_start
begun_0_alone f = grind (arith, nat_tests)

begun_1_alone : (f : ℕ) → begins_in 1 f ≡ (f == 2)
unfolding pool_at offset_at slice_start
begun_1_alone f = grind (arith, nat_tests)

begun_2_alone : (f : ℕ) → begins_in 2 f ≡ (f == 17)
unfolding pool_at offset_at slice_start
begun_2_alone f = grind (arith, nat_tests)

begun_3_alone : (f : ℕ) → begins_in 3 f ≡ (nat_le 144 f && ((f - 144) % 2047 == 0))
unfolding pool_at offset_at slice_start
begun_3_alone f = grind (arith, nat_tests)

pub begun_0 : (f g : ℕ) → HasLike f g → begins_in 0 f ≡ (g == 0)
begun_0 f g h = begun_0_alone f ∙ (let s = h.same in let l = h.last in grind (arith, nat_tests))

pub begun_1 : (f g : ℕ) → HasLike f g → begins_in 1 f ≡ (g == 2)
begun_1 f g h = begun_1_alone f ∙ (let s = h.same in let l = h.last in grind (arith, nat_tests))

pub begun_2 : (f g : ℕ) → HasLike f g → begins_in 2 f ≡ (g == 17)
begun_2 f g h = begun_2_alone f ∙ (let s = h.same in let l = h.last in grind (arith, nat_tests))

pub begun_3 : (f g : ℕ) → HasLike f g → begins_in 3 f ≡ (nat_le 144 g && ((g - 144) % 2047 == 0))
begun_3 f g h = begun_3_alone f ∙ (let s = h.same in let l = h.last in grind (arith, nat_tests))
