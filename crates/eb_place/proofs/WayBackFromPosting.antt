-- The way back from a posting: where its address is in its slice, and the newest of the first
-- postings.
use Rattle.std.proofs.Common.{◌≡◌, ℕ, zero, suc, ◌+◌, ◌*◌, ◌/◌, ◌%◌, ◌^◌, ◌<◌, ◌≤◌, true, false, List, [], ◌∷◌, length, take, reverse, get_or, refl, ap, ◌∙◌, arith}
use Rattle.std.proofs.lemmas.Bool.Decides.{nat_tests}
use Rattle.std.proofs.lemmas.List.{take_more, reverse-append}
use Rattle.eb_place.specs.Layout.{slice_bits, address_pool, address_offset}
use Rattle.eb_place.specs.Address.{pool_at, offset_at, slice_start, begins}
use Rattle.eb_place.proofs.AddressesDiffer.{pool_low, offset_in}
use Rattle.eb_place.proofs.ReaderWords.{Parts}

-- an address determines its pool and its offset
fields : (p o x a : ℕ) → p < 4 → o < 2 ^ slice_bits p → x * 2 ^ slice_bits p + o < 2 ^ 30 → a ≡ p * 2 ^ 30 + x * 2 ^ slice_bits p + o → (a / 2 ^ 30 ≡ p) × (a % 2 ^ slice_bits p ≡ o)
fields zero o x a h l k e = (omega arith, omega arith)
fields (suc zero) o x a h l k e = (omega arith, omega arith)
fields (suc (suc zero)) o x a h l k e = (omega arith, omega arith)
fields (suc (suc (suc zero))) o x a h l k e = (omega arith, omega arith)
fields (suc (suc (suc (suc p)))) o x a h l k e = absurd (omega arith)

-- the parts of the address of a posting
pub told : (f a : ℕ) → Parts f a → (address_pool a ≡ pool_at f) × (address_offset a ≡ offset_at f)
told f a h = let w = fields (pool_at f) (offset_at f) h.slice a (pool_low f) (offset_in f) h.inside h.is in
    (w.0, ap (λ p. a % 2 ^ slice_bits p) w.0 ∙ w.1)

pub first_at : (pool_at 0 ≡ 0) × (offset_at 0 ≡ 0)
unfolding pool_at offset_at
first_at = (refl, refl)

pub within_at : (f : ℕ) → begins (suc f) ≡ false → 1 ≤ pool_at (suc f) → 2 ≤ offset_at (suc f)
unfolding pool_at offset_at slice_start
within_at f h l = grind (arith, nat_tests)

pub second_at : (f : ℕ) → begins (suc f) ≡ false → pool_at (suc f) ≡ 0 → 1 ≤ offset_at (suc f)
unfolding pool_at offset_at slice_start
second_at f h l = grind (arith, nat_tests)

pub linked_at : (f : ℕ) → begins (suc f) ≡ true → (1 ≤ pool_at (suc f)) × (offset_at (suc f) ≡ 1)
unfolding pool_at offset_at slice_start
linked_at f h = (grind (arith, nat_tests), grind (arith, nat_tests))

-- the newest of the first f + 1
pub reverse_take : (f : ℕ) (ps : List ℕ) → f < length ps → reverse (take (suc f) ps) ≡ get_or ps f 0 ∷ reverse (take f ps)
reverse_take f ps h = ap (λ (k : ℕ). reverse (take k ps)) (let q : suc f ≡ f + 1 = omega arith in q) ∙ ap reverse (take_more ps f 0 h) ∙ reverse-append (take f ps) (get_or ps f 0 ∷ [])
