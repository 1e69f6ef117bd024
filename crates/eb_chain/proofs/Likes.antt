-- What a tail word says about how many postings came before.
use Rattle.std.proofs.Common.{◌≡◌, ℕ, zero, suc, ◌+◌, ◌-◌, ◌*◌, ◌/◌, ◌^◌, ◌<◌, ◌≤◌, refl, sym, ◌∙◌, subst, arith}
use Rattle.std.proofs.lemmas.Bool.Decides.{nat_tests}
use Rattle.eb_place.specs.Layout.{address_pool, address_offset}
use Rattle.eb_place.specs.Address.{pool_at, offset_at}
use Rattle.eb_base.specs.Term.{Term}
use Rattle.eb_place.specs.declared.moment.Moment.{Moment}
use Rattle.eb_place.specs.Moments.{IsMoment}
use Rattle.eb_place.specs.Seen.{seen_count}
use Rattle.eb_place.specs.Walk.{address_in, tail_value}
use Rattle.eb_place.proofs.AddressesDiffer.{pool_low}
use Rattle.eb_place.proofs.ReaderWords.{address_parts}
use Rattle.eb_place.proofs.WayBackFromPosting.{told}
use Rattle.eb_chain.specs.Needs.{HasPoolAndOffset, IsTailWord, HasLike}

-- a tail word that isn't 0 is one more than the address of the last posting
pub last_of_tail : (f tail : ℕ) → 1 ≤ tail → IsTailWord f tail → (g : ℕ) × (f ≡ suc g) × HasPoolAndOffset g (tail - 1)
last_of_tail zero tail l h = absurd (omega arith)
last_of_tail (suc f) zero l h = absurd h
last_of_tail (suc f) (suc at) l h = (f, refl, subst (HasPoolAndOffset f) (let e : at ≡ suc at - 1 = omega arith in e) h)

-- without a tail there is no posting
pub none_of_tail : (f tail : ℕ) → tail ≡ 0 → IsTailWord f tail → f ≡ 0
none_of_tail zero tail l h = refl
none_of_tail (suc f) zero l h = absurd h
none_of_tail (suc f) (suc at) l h = absurd (omega arith)

-- an address of a posting has 32 bits
pub tail_small : (f tail : ℕ) → 1 ≤ tail → IsTailWord f tail → tail - 1 < 2 ^ 32
tail_small f tail l h = let g = last_of_tail f tail l h in let p = g.2.pool in let low = pool_low g.0 in omega (arith, p, low)

by_0 : (g : ℕ) → pool_at g ≡ 0 → suc g ≡ offset_at g + 1
unfolding pool_at offset_at
by_0 g h = grind (arith, nat_tests)

by_1 : (g : ℕ) → pool_at g ≡ 1 → suc g ≡ offset_at g + 2
unfolding pool_at offset_at
by_1 g h = grind (arith, nat_tests)

by_2 : (g : ℕ) → pool_at g ≡ 2 → suc g ≡ offset_at g + 17
unfolding pool_at offset_at
by_2 g h = grind (arith, nat_tests)

by_3 : (g : ℕ) → pool_at g ≡ 3 → (suc g ≡ offset_at g + 144 + 2047 * ((g - 144) / 2047)) × (1 ≤ offset_at g)
unfolding pool_at offset_at
by_3 g h = (grind (arith, nat_tests), grind (arith, nat_tests))

same_number : (f g : ℕ) → f ≡ g → HasLike f g
same_number f g e = record { full = 0; same = omega arith; last = λ l. absurd (omega arith) }

-- by its pool and offset a posting says how many came before it in like slices
pub like_0 : (f tail : ℕ) → 1 ≤ tail → address_pool (tail - 1) ≡ 0 → IsTailWord f tail → HasLike f (address_offset (tail - 1) + 1)
like_0 f tail l p h = let g = last_of_tail f tail l h in let q = g.2.pool in let o = g.2.offset in same_number _ _ (omega (arith, g.1, o, by_0 g.0 (sym q ∙ p)))

pub like_1 : (f tail : ℕ) → 1 ≤ tail → address_pool (tail - 1) ≡ 1 → IsTailWord f tail → HasLike f (address_offset (tail - 1) + 2)
like_1 f tail l p h = let g = last_of_tail f tail l h in let q = g.2.pool in let o = g.2.offset in same_number _ _ (omega (arith, g.1, o, by_1 g.0 (sym q ∙ p)))

pub like_2 : (f tail : ℕ) → 1 ≤ tail → address_pool (tail - 1) ≡ 2 → IsTailWord f tail → HasLike f (address_offset (tail - 1) + 17)
like_2 f tail l p h = let g = last_of_tail f tail l h in let q = g.2.pool in let o = g.2.offset in same_number _ _ (omega (arith, g.1, o, by_2 g.0 (sym q ∙ p)))

pub like_3 : (f tail : ℕ) → 1 ≤ tail → 3 ≤ address_pool (tail - 1) → IsTailWord f tail → HasLike f (address_offset (tail - 1) + 144)
like_3 f tail l p h =
    let g = last_of_tail f tail l h in
    let q = g.2.pool in
    let o = g.2.offset in
    let low = pool_low g.0 in
    let b = by_3 g.0 (omega (arith, q, p, low)) in
    record { full = (g.0 - 144) / 2047; same = omega (arith, g.1, o, b.0); last = λ x. omega (arith, o, b.1) }

-- at each moment a term's tail is a tail word of its seen postings
pub tail_word : (m : Moment) (s : ℕ) (t : Term) → IsMoment m → s < m.setting.segments → IsTailWord (seen_count m s t) (tail_value m s t (seen_count m s t))
tail_word m s t is h = go (seen_count m s t) refl
  where
    go : (k : ℕ) → seen_count m s t ≡ k → IsTailWord k (tail_value m s t k)
    go zero e = refl
    go (suc f) e =
        let w = told f (address_in m s t f) (address_parts m s t f is h (omega arith)) in
        subst (IsTailWord (suc f)) (let q : suc (address_in m s t f) ≡ address_in m s t f + 1 = omega arith in q) (record { pool = w.0; offset = w.1 })
