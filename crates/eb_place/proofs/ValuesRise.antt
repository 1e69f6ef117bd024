-- The values stored to the count and to each tail rise.
use Rattle.std.proofs.Common.{◌≡◌, ℕ, zero, suc, ◌+◌, ◌-◌, ◌*◌, ◌^◌, ◌<◌, ◌≤◌, ◌==◌, ◌⊎◌, true, List, [], ◌∷◌, ◌++◌, length}
use Rattle.std.proofs.Common.{get_or, map, filter, slice_index, bytes_eq, refl, ap, sym, ◌∙◌, subst, arith, inl, inr, append-nil}
use Rattle.std.specs.List.Sorted.{IsStrictlyIncreasing}
use Rattle.std.proofs.lemmas.Bool.{cases_Bool, cases_lt, eq-eqb, ne_eqb}
use Rattle.std.proofs.lemmas.Bool.Decides.{nat_tests}
use Rattle.std.proofs.lemmas.List.{length_push, map-append, get_or_append_left}
use Rattle.std.proofs.lemmas.List.Elements.{filter-append}
use Rattle.std.proofs.Math.Seq.{get_or-append_seam}
use native.Mathlib.Decide.{ℕ_discrete}
use Rattle.eb_base.specs.Term.{Term}
use Rattle.eb_base.specs.Setting.{Setting}
use Rattle.eb_place.specs.Layout.{Slot, place, slice_bits, address_number}
use Rattle.eb_place.specs.Layout.Slot.{slot}
use Rattle.eb_place.specs.Layout.Region.{tail_region}
use Rattle.eb_place.specs.Postings.{count_of, distinct, number_of}
use Rattle.eb_place.specs.Address.{pool_at, offset_at, slice_start, begins, begins_in, slices_begun, front_of, address_of}
use Rattle.eb_place.specs.Placing.{Store, pairs_of}
use Rattle.eb_place.proofs.TermCounts.{one_if, same_term, same_from_test, count_of_push}
use Rattle.eb_place.proofs.AddressesDiffer.{SlicesFit, front_split, front_count, slice_same, start_le, start_begins, slice_in, offset_in, address_stays}
use Rattle.eb_place.proofs.NextAddresses.{address_new, address_next}
use Rattle.eb_place.proofs.PlacesOfSlots.{InTable, place_once}
use Rattle.eb_place.proofs.FreshPoolWords.{Each, address_here}
use Rattle.eb_place.proofs.FreshPoolWords.Each.{none, more}
use Rattle.eb_place.proofs.StoresWithinTable.{IsWithin}
use Rattle.eb_place.proofs.TermNumbersStay.{number_here, number_keeps, number_low, number_once, number_absent, distinct_grows}
use Rattle.eb_place.specs.StoredOnce.{values_at}

-- ---- rising lists

-- the numbers rise, up to the last
pub record Rises (xs : List ℕ) (top : ℕ) : Type 0 where
  pub rising : IsStrictlyIncreasing xs
  pub last : 1 ≤ length xs → slice_index xs (length xs - 1) ≡ top

-- one more, which is greater than the last
pub rises_push : (xs : List ℕ) (top v : ℕ) → Rises xs top → (1 ≤ length xs → top < v) → Rises (xs ++ v ∷ []) v
rises_push xs top v h l =
    let n = length_push xs v in
    let seam = get_or-append_seam xs v [] 0 in
    record {
      rising = λ k within. elim (cases_lt (k + 1) (length xs)) [
        | inl low ↦ let a = h.rising k low in omega (arith, a, get_or_append_left xs (v ∷ []) 0 k (omega arith), get_or_append_left xs (v ∷ []) 0 (k + 1) low)
        | inr high ↦
            let e : k + 1 ≡ length xs = omega arith in
            let b = h.last (omega arith) in
            let c = l (omega arith) in
            let d : slice_index xs (length xs - 1) ≡ slice_index xs k = ap (slice_index xs) (let q : length xs - 1 ≡ k = omega arith in q) in
            omega (arith, b, c, d, get_or_append_left xs (v ∷ []) 0 k (omega arith), ap (λ j. get_or (xs ++ v ∷ []) j 0) e, seam)
      ];
      last = λ o. ap (λ j. get_or (xs ++ v ∷ []) j 0) (let q : length (xs ++ v ∷ []) - 1 ≡ length xs = omega arith in q) ∙ seam;
    }

-- ---- the values at a word

-- the values of two lists follow each other
pub values-append : (σ : Setting) (p : ℕ) (xs ys : List Store) → values_at p (pairs_of σ (xs ++ ys)) ≡ values_at p (pairs_of σ xs) ++ values_at p (pairs_of σ ys)
values-append σ p xs ys =
    ap (values_at p) (map-append (λ (y : Store). (place σ y.0, y.1)) xs ys)
    ∙ ap (map (λ (z : ℕ × ℕ). z.1)) (filter-append (λ (z : ℕ × ℕ). z.0 == p) (pairs_of σ xs) (pairs_of σ ys))
    ∙ map-append (λ (z : ℕ × ℕ). z.1) (filter (λ (z : ℕ × ℕ). z.0 == p) (pairs_of σ xs)) (filter (λ (z : ℕ × ℕ). z.0 == p) (pairs_of σ ys))

-- stores to other words have none
pub values_none : (σ : Setting) (x : Slot) (ys : List Store) → InTable σ x → Each (IsWithin σ) ys → Each (λ y. y.0 ≡ x → ⊥) ys → values_at (place σ x) (pairs_of σ ys) ≡ []
values_none σ x [] i none none = refl
values_none σ x (y ∷ ys) i (more w all) (more o other) = rw (ne_eqb (place σ y.0) (place σ x) (λ e. o (place_once σ y.0 x w i e))) (values_none σ x ys i all other)

-- stores to other words change nothing
pub values_keep : (σ : Setting) (x : Slot) (xs ys : List Store) → InTable σ x → Each (IsWithin σ) ys
    → Each (λ y. y.0 ≡ x → ⊥) ys → values_at (place σ x) (pairs_of σ (xs ++ ys)) ≡ values_at (place σ x) (pairs_of σ xs)
values_keep σ x xs ys i all other =
    values-append σ (place σ x) xs ys ∙ ap (λ z. values_at (place σ x) (pairs_of σ xs) ++ z) (values_none σ x ys i all other) ∙ append-nil (values_at (place σ x) (pairs_of σ xs))

-- a store to the word adds its value
pub values_push : (σ : Setting) (x : Slot) (v : ℕ) (xs : List Store) → values_at (place σ x) (pairs_of σ (xs ++ (x, v) ∷ [])) ≡ values_at (place σ x) (pairs_of σ xs) ++ v ∷ []
values_push σ x v xs = values-append σ (place σ x) xs ((x, v) ∷ []) ∙ ap (λ z. values_at (place σ x) (pairs_of σ xs) ++ z) (here (place σ x))
  where
    here : (p : ℕ) → values_at p ((p, v) ∷ []) ≡ v ∷ []
    here p = rw (eq-eqb p p refl) refl

-- ---- addresses of a term rise

pools_rise : (f : ℕ) → begins (f + 1) ≡ true → (pool_at f < pool_at (f + 1)) ⊎ ((pool_at f ≡ 3) × (pool_at (f + 1) ≡ 3))
unfolding pool_at offset_at slice_start
pools_rise f b = elim (cases_lt f 144) [
  | inl low ↦ inl (grind (arith, nat_tests))
  | inr high ↦ inr (grind (arith, nat_tests), grind (arith, nat_tests))
]

under : (t : Term) (f : ℕ) (ts : List Term) → f < count_of t ts → SlicesFit ts → address_of t f ts < (pool_at f + 1) * 2 ^ 30
unfolding address_of
under t f ts l fit = omega (arith, slice_in t f ts l fit)

over : (t : Term) (f : ℕ) (ts : List Term) → pool_at f * 2 ^ 30 ≤ address_of t f ts
unfolding address_of
over t f ts = omega arith

address_is : (t : Term) (f : ℕ) (ts : List Term) → address_of t f ts ≡ address_number (pool_at f) (slices_begun (pool_at f) (front_of t (slice_start f) ts)) (offset_at f)
unfolding address_of
address_is t f ts = refl

-- in the last pool the next slice has a greater number
in_last_pool : (t : Term) (f : ℕ) (ts : List Term) → count_of t ts ≡ f + 1 → begins (f + 1) ≡ true → pool_at f ≡ 3 → pool_at (f + 1) ≡ 3 → address_of t f ts < address_of t (f + 1) ts
in_last_pool t f ts e new p q =
    let l : slice_start f < count_of t ts = omega (arith, start_le f) in
    let split = front_split t (slice_start f) ts l in
    let b : begins_in 3 (count_of t (front_of t (slice_start f) ts)) ≡ true =
    subst (λ (z : ℕ × ℕ). begins_in z.0 z.1 ≡ true) (λ i. (p i, sym (front_count t (slice_start f) ts l) i)) (start_begins f) in
    let fewer = slice_same 3 (front_of t (slice_start f) ts) ts t split.0 b split.1 in
    let old : address_of t f ts ≡ address_number 3 (slices_begun 3 (front_of t (slice_start f) ts)) (offset_at f) = address_is t f ts
    ∙ ap (λ z. address_number z (slices_begun z (front_of t (slice_start f) ts)) (offset_at f)) p in
    let o : offset_at f < 2 ^ slice_bits 3 = subst (λ z. offset_at f < 2 ^ slice_bits z) p (offset_in f) in
    let next : address_of t (f + 1) ts ≡ address_number 3 (slices_begun 3 ts) (offset_at (count_of t ts)) =
    ap (λ k. address_of t k ts) (sym e) ∙ address_new t ts (ap begins e ∙ new) ∙ ap (λ z. address_number z (slices_begun z ts) (offset_at (count_of t ts))) (ap pool_at e ∙ q) in
    omega (arith, old, next, o, fewer)

-- the next posting of a term has a greater address than its last
pub address_rises : (t : Term) (f : ℕ) (ts : List Term) → count_of t ts ≡ f + 1 → SlicesFit ts → address_of t f ts < address_of t (f + 1) ts
address_rises t f ts e fit = elim (cases_Bool (begins (f + 1))) [
  | inr old ↦ omega (arith, address_next t f ts old)
  | inl new ↦ elim (pools_rise f new) [
    | inl higher ↦ omega (arith, under t f ts (omega arith) fit, over t (f + 1) ts, higher)
    | inr both ↦ in_last_pool t f ts e new both.0 both.1
  ]
]

-- ---- the tails

-- the values stored to tail k of a segment whose stored tokens are these
pub record TailRises (σ : Setting) (s k : ℕ) (ts : List Term) (L : List Store) : Type 0 where
  pub top : ℕ
  pub rises : Rises (values_at (place σ (slot s tail_region k)) (pairs_of σ L)) top
  pub newest : (t : Term) → 1 ≤ count_of t ts → number_of t ts ≡ k → top ≡ address_of t (count_of t ts - 1) ts + 1
  pub unused : length (distinct ts) ≤ k → length (values_at (place σ (slot s tail_region k)) (pairs_of σ L)) ≡ 0

-- stores to other words leave it
pub tail_keeps : (σ : Setting) (s k : ℕ) (ts : List Term) (L M : List Store) → InTable σ (slot s tail_region k)
    → Each (IsWithin σ) M → Each (λ y. y.0 ≡ slot s tail_region k → ⊥) M → TailRises σ s k ts L → TailRises σ s k ts (L ++ M)
tail_keeps σ s k ts L M i all other h =
    let e = values_keep σ (slot s tail_region k) L M i all other in
    record { top = h.top; rises = subst (λ z. Rises z h.top) (sym e) h.rises; newest = h.newest; unused = λ l. ap length e ∙ h.unused l }

-- the tail store of a further token
pub tail_adds : (σ : Setting) (s k : ℕ) (ts : List Term) (u : Term) (L : List Store) → InTable σ (slot s tail_region k)
    → InTable σ (slot s tail_region (number_of u ts)) → SlicesFit ts → TailRises σ s k ts L
    → TailRises σ s k (ts ++ u ∷ []) (L ++ (slot s tail_region (number_of u ts), address_of u (count_of u ts) ts + 1) ∷ [])
tail_adds σ s k ts u L i j fit h =
    let c = count_of u ts in
    let v = address_of u c ts + 1 in
    let n = count_of_push u u ts in
    let n1 = ap one_if (same_term u) in
    elim (ℕ_discrete (number_of u ts) k) [
      | yes same ↦
          let p = place σ (slot s tail_region k) in
          let e : values_at p (pairs_of σ (L ++ (slot s tail_region (number_of u ts), v) ∷ [])) ≡ values_at p (pairs_of σ L) ++ v ∷ [] =
          ap (λ z. values_at p (pairs_of σ (L ++ (slot s tail_region z, v) ∷ []))) same ∙ values_push σ (slot s tail_region k) v L in
          record {
            top = v;
            rises = subst (λ z. Rises z v) (sym e) (rises_push (values_at p (pairs_of σ L)) h.top v h.rises (λ some. higher same some (count_of u ts) refl));
            newest = λ t l number. mine t l number same;
            unused = λ l. absurd (let low = number_low u (ts ++ u ∷ []) (omega arith) in omega (arith, low, number_here u ts));
          }
      | no other ↦
          let e = values_keep σ (slot s tail_region k) L ((slot s tail_region (number_of u ts), v) ∷ []) i (more j none) (more (λ q. other (cc)) none) in
          record {
            top = h.top;
            rises = subst (λ z. Rises z h.top) (sym e) h.rises;
            newest = λ t l number. yours t l number other;
            unused = λ l. ap length e ∙ h.unused (omega (arith, distinct_grows ts u));
          }
    ]
  where
    higher : number_of u ts ≡ k → 1 ≤ length (values_at (place σ (slot s tail_region k)) (pairs_of σ L)) → (c : ℕ) → count_of u ts ≡ c → h.top < address_of u (count_of u ts) ts + 1
    higher same some zero z = absurd (omega (arith, h.unused (omega (arith, number_absent u ts z))))
    higher same some (suc f) z =
        let a = h.newest u (omega arith) same in
        let b = address_rises u f ts (omega arith) fit in
        omega (arith, a, b, ap (λ j. address_of u j ts) (let q : count_of u ts - 1 ≡ f = omega arith in q), ap (λ j. address_of u j ts) (let q : count_of u ts ≡ f + 1 = omega arith in q))

    mine : (t : Term) → 1 ≤ count_of t (ts ++ u ∷ []) → number_of t (ts ++ u ∷ []) ≡ k → number_of u ts ≡ k
        → address_of u (count_of u ts) ts + 1 ≡ address_of t (count_of t (ts ++ u ∷ []) - 1) (ts ++ u ∷ []) + 1
    mine t l number same =
        let it : t ≡ u = number_once t u (ts ++ u ∷ []) l (number ∙ sym same ∙ sym (number_here u ts)) in
        let n = count_of_push u u ts in
        let n1 = ap one_if (same_term u) in
        sym (ap (λ z. address_of z (count_of z (ts ++ u ∷ []) - 1) (ts ++ u ∷ []) + 1) it
        ∙ ap (λ j. address_of u j (ts ++ u ∷ []) + 1) (let q : count_of u (ts ++ u ∷ []) - 1 ≡ count_of u ts = omega arith in q) ∙ ap (λ z. z + 1) (address_here u ts []))

    yours : (t : Term) → 1 ≤ count_of t (ts ++ u ∷ []) → number_of t (ts ++ u ∷ []) ≡ k → (number_of u ts ≡ k → ⊥) → h.top ≡ address_of t (count_of t (ts ++ u ∷ []) - 1) (ts ++ u ∷ []) + 1
    yours t l number other = elim (cases_Bool (bytes_eq t u)) [
      | inl same ↦ absurd (other (sym (number_here u ts) ∙ ap (λ z. number_of z (ts ++ u ∷ [])) (sym (same_from_test t u same)) ∙ number))
      | inr away ↦
          let n = count_of_push t u ts in
          let n1 = ap one_if away in
          let some : 1 ≤ count_of t ts = omega arith in
          h.newest t some (sym (number_keeps t u ts some) ∙ number) ∙ ap (λ z. z + 1) (sym
          (ap (λ j. address_of t j (ts ++ u ∷ [])) (let q : count_of t (ts ++ u ∷ []) - 1 ≡ count_of t ts - 1 = omega arith in q) ∙ address_stays t (count_of t ts - 1) ts (u ∷ []) (omega arith)))
    ]
