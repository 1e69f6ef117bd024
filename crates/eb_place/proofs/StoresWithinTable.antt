-- The stores of one more token are within the table.
use Rattle.std.proofs.Common.{◌≡◌, ℕ, zero, suc, ◌+◌, ◌-◌, ◌*◌, ◌/◌, ◌%◌, ◌^◌, ◌<◌, ◌≤◌, ◌==◌, ◌&&◌, true, List, [], ◌∷◌}
use Rattle.std.proofs.Common.{◌++◌, length, refl, ap, ◌∙◌, subst, arith, inl, inr, bytes_eq, nat_le, sum_by, drop, not}
use Rattle.std.specs.List.{list_any}
use Rattle.std.proofs.lemmas.Bool.{and_parts, eqb-true, lt-ltb}
use Rattle.std.proofs.lemmas.Bool.Decides.{nat_tests}
use Rattle.std.proofs.lemmas.List.{length_push}
use Rattle.std.proofs.lemmas.List.Sums.{sum_by_push, prefix_len-le-length}
use Rattle.std.proofs.lemmas.Nat.{div-mul-add, mod-mul-add}
use Rattle.std.proofs.Math.Nat.{mod-lt}
use Rattle.eb_base.specs.Term.{Term}
use Rattle.eb_base.specs.Setting.{Setting}
use Rattle.eb_place.specs.Layout.{size, pool_slot, pool_region, pool_slices, address_number, slice_bits}
use Rattle.eb_place.specs.Layout.Region.{text_region}
use Rattle.eb_place.specs.Postings.{count_of, distinct, number_of}
use Rattle.eb_place.specs.Room.{text_words}
use Rattle.eb_place.specs.Address.{pool_at, offset_at, slice_start, begins, begins_in, slices_begun, front_of, address_of}
use Rattle.eb_place.specs.Placing.{Store, in_row, text_of, eights, cell_of_next, cells_of, hash, home_cell, enter_stores, append_stores, token_stores}
use Rattle.eb_place.proofs.TermCounts.{one_if, same_term, count_of_push, distinct_push, with_term_cases, any_count, once}
use Rattle.eb_place.proofs.AddressesDiffer.{front_split, front_count, slice_same, start_in, start_begins, offset_in, pool_low, slice_in, SlicesFit}
use Rattle.eb_place.proofs.FreeCells.{free_from_is, position_in}
use Rattle.eb_place.proofs.PlacesOfSlots.{InTable}
use Rattle.eb_place.proofs.FreshPoolWords.{Each, Each-append, Each-if, address_here, begin_offset, one_place}
use Rattle.eb_place.proofs.FreshPoolWords.Each.{none, more}

-- what the documents of a segment take is there
pub record SegmentFits (σ : Setting) (ts : List Term) : Type 0 where
  pub few : length (distinct ts) ≤ σ.terms
  pub texts : sum_by text_words (distinct ts) ≤ 4 * σ.terms
  pub slices : (p : ℕ) → p < 4 → slices_begun p ts ≤ pool_slices σ p

-- the store goes to a word of the index
abbrev pub IsWithin : Setting → Store → Type 0
IsWithin σ y = InTable σ y.0

pub row_within : (σ : Setting) (s i : ℕ) (vs : List ℕ) → s < σ.segments → i + length vs ≤ 4 * σ.terms → Each (IsWithin σ) (in_row s text_region i vs)
unfolding size
row_within σ s i [] h l = none
row_within σ s i (v ∷ vs) h l = more (h, omega arith) (row_within σ s (i + 1) vs h (omega arith))

pub length-eights : (n : ℕ) (bs : List ℕ) → length (eights n bs) ≡ n
length-eights zero bs = refl
length-eights (suc n) bs = ap suc (length-eights n (drop 8 bs))

-- a term has as many text words as its text
pub length-text_of : (t : Term) → length (text_of t) ≡ text_words t
length-text_of t = omega (arith, length-eights ((length t + 7) / 8) t)

-- a slice of a pool is within the pool
pool_within : (σ : Setting) (p a o : ℕ) → p < 4 → a < pool_slices σ p → o < 2 ^ slice_bits p → a * 2 ^ slice_bits p + o < size σ (pool_region p)
unfolding size
pool_within σ zero a o h l k = omega arith
pool_within σ (suc zero) a o h l k = omega arith
pool_within σ (suc (suc zero)) a o h l k = omega arith
pool_within σ (suc (suc (suc zero))) a o h l k = omega arith
pool_within σ (suc (suc (suc (suc p)))) a o h l k = absurd (omega arith)

-- so that the addresses are in range
pub slices_fit : (σ : Setting) (ts : List Term) → σ.terms ≤ 2 ^ 20 → SegmentFits σ ts → SlicesFit ts
slices_fit σ ts small fit zero h = let l = fit.slices 0 h in omega arith
slices_fit σ ts small fit (suc zero) h = let l = fit.slices 1 h in omega arith
slices_fit σ ts small fit (suc (suc zero)) h = let l = fit.slices 2 h in omega arith
slices_fit σ ts small fit (suc (suc (suc zero))) h = let l = fit.slices 3 h in omega arith
slices_fit σ ts small fit (suc (suc (suc (suc p)))) h = absurd (omega arith)

slot_within : (σ : Setting) (s p x a : ℕ) → s < σ.segments → x < size σ (pool_region p) → x < 2 ^ 30 → a ≡ p * 2 ^ 30 + x → InTable σ (pool_slot s a)
unfolding pool_slot
slot_within σ s p x a hs h l e =
    let d : a / 2 ^ 30 ≡ p = ap (λ n. n / 2 ^ 30) e ∙ div-mul-add p (2 ^ 30) x l in
    let m : a % 2 ^ 30 ≡ x = ap (λ n. n % 2 ^ 30) e ∙ mod-mul-add p (2 ^ 30) x l in
    rw (d, m) (hs, h)

-- a posting of a segment that fits has a word
pub address_within : (σ : Setting) (s : ℕ) (ts : List Term) (t : Term) (f : ℕ) → s < σ.segments → σ.terms ≤ 2 ^ 20 → SegmentFits σ ts → f < count_of t ts → InTable σ (pool_slot s (address_of t f ts))
unfolding address_of
address_within σ s ts t f hs small fit h =
    let p = pool_at f in
    let a = front_split t (slice_start f) ts (start_in f _ h) in
    let b : begins_in p (count_of t (front_of t (slice_start f) ts)) ≡ true = rw (front_count t (slice_start f) ts (start_in f _ h)) (start_begins f) in
    let l = slice_same p _ ts t a.0 b a.1 in
    let m = fit.slices p (pool_low f) in
    let w = pool_within σ p (slices_begun p (front_of t (slice_start f) ts)) (offset_at f) (pool_low f) (omega arith) (offset_in f) in
    slot_within σ s p _ (address_of t f ts) hs w (slice_in t f ts h (slices_fit σ ts small fit)) (omega arith)

-- and so has its link
pub link_within : (σ : Setting) (s : ℕ) (ts : List Term) (t : Term) (f : ℕ) → s < σ.segments → σ.terms ≤ 2 ^ 20 → SegmentFits σ ts → f < count_of t ts → begins f ≡ true → 1 ≤ pool_at f →
    InTable σ (pool_slot s (address_of t f ts - 1))
unfolding address_of
link_within σ s ts t f hs small fit h g l1 =
    let p = pool_at f in
    let a = front_split t (slice_start f) ts (start_in f _ h) in
    let b : begins_in p (count_of t (front_of t (slice_start f) ts)) ≡ true = rw (front_count t (slice_start f) ts (start_in f _ h)) (start_begins f) in
    let l = slice_same p _ ts t a.0 b a.1 in
    let m = fit.slices p (pool_low f) in
    let x = slices_begun p (front_of t (slice_start f) ts) in
    let w = pool_within σ p x 0 (pool_low f) (omega arith) (one_place p) in
    let one = begin_offset f g l1 in
    let z : address_of t f ts ≡ address_number p x 1 = ap (address_number p x) one in
    let r = slice_in t f ts h (slices_fit σ ts small fit) in
    slot_within σ s p (x * 2 ^ slice_bits p + 0) (address_of t f ts - 1) hs w (omega arith) (omega (arith, z))

-- the term of a new token has a number below that of the terms then
number_in : (ts : List Term) (u : Term) → number_of u ts < length (distinct (ts ++ u ∷ []))
number_in ts u = let d = ap length (distinct_push ts u) in elim (with_term_cases (distinct ts) u) [
  | inl w ↦ let e = ap length w.1 in let a : list_any (bytes_eq u) (distinct ts) ≡ true = any_count u (distinct ts) ∙ lt-ltb 0 (count_of u (distinct ts)) (omega arith) in
      let q = position_in (bytes_eq u) (distinct ts) a in omega arith
  | inr w ↦ let e = ap length w.1 in omega (arith, prefix_len-le-length (λ (x : Term). not (bytes_eq u x)) (distinct ts), length_push (distinct ts) u)
]

-- what a new term takes is there
new_fits : (σ : Setting) (ts : List Term) (u : Term) → SegmentFits σ (ts ++ u ∷ []) → count_of u ts ≡ 0
    → (length (distinct ts) < σ.terms) × (sum_by text_words (distinct ts) + text_words u ≤ 4 * σ.terms)
new_fits σ ts u fit z = let o = once u ts in let d = distinct_push ts u in let few = fit.few in let texts = fit.texts in elim (with_term_cases (distinct ts) u) [
  | inl w ↦ absurd (omega (arith, w.0))
  | inr w ↦ let e = d ∙ w.1 in let l = ap length e in let t = ap (sum_by text_words) e in (omega (arith, length_push (distinct ts) u), omega (arith, sum_by_push text_words (distinct ts) u))
]

-- a new cell is one of the cells
pub cell_within : (taken_by : List Term) (u : Term) (cells : ℕ) → 1 ≤ cells → cell_of_next cells taken_by u < cells
unfolding cell_of_next
cell_within terms u cells h = let r = free_from_is cells (cells_of cells terms) (length terms) (home_cell cells u) (mod-lt (hash u) h) in
    omega (arith, r.is, mod-lt (home_cell cells u + r.steps) h)

-- the stores of one more token are within the table
pub token_within : (σ : Setting) (s : ℕ) (ts : List Term) (u : Term) (posting : ℕ) → s < σ.segments → σ.terms ≤ 2 ^ 20
    → 1 ≤ σ.terms → SegmentFits σ (ts ++ u ∷ []) → Each (IsWithin σ) (token_stores σ s ts u posting)
unfolding token_stores append_stores enter_stores size
token_within σ s ts u posting hs small some fit =
    let c = count_of u ts in
    let n = count_of_push u u ts in
    let n1 = ap one_if (same_term u) in
    let new : address_of u c (ts ++ u ∷ []) ≡ address_of u c ts = address_here u ts [] in
    let here : c < count_of u (ts ++ u ∷ []) = omega arith in
    let at : InTable σ (pool_slot s (address_of u c ts)) = subst (λ a. InTable σ (pool_slot s a)) new (address_within σ s (ts ++ u ∷ []) u c hs small fit here) in
    let number : number_of u ts < σ.terms = omega (arith, number_in ts u, fit.few) in
    Each-append
    (Each-if (c == 0) (λ z. let w = new_fits σ ts u fit (eqb-true _ _ z) in
    Each-append (row_within σ s _ (text_of u) hs (omega (arith, length-eights ((length u + 7) / 8) u, w.1)))
    (more (hs, w.0) (more (hs, cell_within (distinct ts) u (2 * σ.terms) (omega arith)) none))))
    (Each-append
    (Each-if (begins c && nat_le 1 (pool_at c)) (λ z. let b = and_parts _ _ z in
    more (subst (λ a. InTable σ (pool_slot s (a - 1))) new (link_within σ s (ts ++ u ∷ []) u c hs small fit here b.0 (le_from (pool_at c) b.1))) none))
    (more at (more (hs, number) none)))
  where
    le_from : (k : ℕ) → nat_le 1 k ≡ true → 1 ≤ k
    le_from k z = grind (arith, nat_tests)
