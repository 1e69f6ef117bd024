-- The stores that enter the terms of a segment, one term after the other, and what they leave.
use Rattle.std.proofs.Common.{◌≡◌, ℕ, zero, suc, ◌+◌, ◌-◌, ◌*◌, ◌/◌, ◌%◌, ◌^◌, ◌==◌, ◌&&◌, ◌||◌, Bool, true, false, List, [], ◌∷◌, ◌++◌}
use Rattle.std.proofs.Common.{length, filter, sum_by, refl, ap, sym, ◌∙◌, arith, inl, inr, append-nil, append_assoc, if◌then◌else◌, nat_le}
use Rattle.std.proofs.lemmas.Bool.{cases_Bool, eq-eqb, eqb-true, ne_eqb}
use Rattle.std.proofs.lemmas.List.Elements.{filter-append}
use Rattle.eb_base.specs.Term.{Term}
use Rattle.eb_base.specs.Setting.{Setting}
use Rattle.eb_place.specs.Layout.{Region, rank, pool_slot, pool_region}
use Rattle.eb_place.specs.Layout.Slot.{published, slot}
use Rattle.eb_place.specs.Layout.Region.{first_region, cell_region, text_region, text_place_region, tail_region, id_region}
use Rattle.eb_place.specs.Postings.{count_of, distinct, number_of}
use Rattle.eb_place.specs.Room.{text_words}
use Rattle.eb_place.specs.Address.{pool_at, begins, address_of}
use Rattle.eb_place.specs.Placing.{Store, in_row, text_of, enter_stores, append_stores, token_stores, cell_of_next}
use Rattle.eb_place.specs.Seen.{is_in}
use Rattle.eb_place.proofs.TermCounts.{distinct_push, distinct-nil, with_term_cases, once}
use Rattle.eb_place.proofs.FreshPoolWords.{Each, Each-append, Each-if}
use Rattle.eb_place.proofs.FreshPoolWords.Each.{none, more}
use Rattle.eb_place.proofs.StoresOfDocuments.{Elsewhere}
use Rattle.eb_place.proofs.RegionStores.{Picks, filter_none, filter_whole}

-- whether a store enters a term in the segment: it goes to a text word, a text place or a cell
abbrev pub is_entry : ℕ → Store → Bool
is_entry s y = is_in s text_region y || is_in s text_place_region y || is_in s cell_region y

-- the stores that enter these terms after others, one term after the other
unfoldable pub entries : Setting → ℕ → List Term → List Term → List Store
entries σ s before [] = []
entries σ s before (t ∷ ts) = enter_stores σ s before t ++ entries σ s (before ++ t ∷ []) ts

-- those of one more term
pub entries_push : (σ : Setting) (s : ℕ) (before ts : List Term) (t : Term) → entries σ s before (ts ++ t ∷ []) ≡ entries σ s before ts ++ enter_stores σ s (before ++ ts) t
unfolding entries
entries_push σ s before [] t = append-nil (enter_stores σ s before t) ∙ ap (λ z. enter_stores σ s z t) (sym (append-nil before))
entries_push σ s before (u ∷ us) t =
    ap (λ z. enter_stores σ s before u ++ z) (entries_push σ s (before ++ u ∷ []) us t)
    ∙ ap (λ z. enter_stores σ s before u ++ (entries σ s (before ++ u ∷ []) us ++ enter_stores σ s z t)) (append_assoc before (u ∷ []) us)
    ∙ sym (append_assoc (enter_stores σ s before u) (entries σ s (before ++ u ∷ []) us) (enter_stores σ s (before ++ (u ∷ us)) t))

-- ---- the tests

pub in_region : (s : ℕ) (r : Region) (i v : ℕ) → is_in s r (slot s r i, v) ≡ true
in_region s r i v = rw (eq-eqb s s refl) (eq-eqb (rank r) (rank r) refl)

-- a store to another region of the segment, or to another segment
pub not_in : (s v : ℕ) (r q : Region) (i w : ℕ) → (rank q == rank r) ≡ false → is_in s r (slot v q i, w) ≡ false
not_in s v r q i w h = rw h (and_false (v == s))
  where
    and_false : (b : Bool) → (b && false) ≡ false
    and_false true = refl
    and_false false = refl

pub elsewhere_in : (s : ℕ) (r : Region) (y : Store) → Elsewhere s y → is_in s r y ≡ false
elsewhere_in s r (published, w) h = refl
elsewhere_in s r (slot v q i, w) h = elim (cases_Bool (v == s)) [
  | inl here ↦ absurd (h q i (let e : v ≡ s = eqb-true _ _ here in ap (λ z. slot z q i) e))
  | inr away ↦ rw away refl
]

or_true : (b : Bool) → (b || true) ≡ true
or_true true = refl
or_true false = refl

pub text_entry : (s i v : ℕ) → is_entry s (slot s text_region i, v) ≡ true
text_entry s i v = rw (in_region s text_region i v) refl

pub text_place_entry : (s i v : ℕ) → is_entry s (slot s text_place_region i, v) ≡ true
text_place_entry s i v = rw (in_region s text_place_region i v, or_true (is_in s text_region (slot s text_place_region i, v))) refl

pub cell_entry : (s i v : ℕ) → is_entry s (slot s cell_region i, v) ≡ true
cell_entry s i v = rw (in_region s cell_region i v, or_true (is_in s text_region (slot s cell_region i, v) || is_in s text_place_region (slot s cell_region i, v))) refl

no_entry : (s : ℕ) (y : Store) → is_in s text_region y ≡ false → is_in s text_place_region y ≡ false → is_in s cell_region y ≡ false → is_entry s y ≡ false
no_entry s y a b c = rw (a, b, c) refl

row_entries : (s i : ℕ) (vs : List ℕ) → Each (λ (y : Store). is_entry s y ≡ true) (in_row s text_region i vs)
row_entries s i [] = none
row_entries s i (v ∷ vs) = more (text_entry s i v) (row_entries s (i + 1) vs)

-- all stores that enter a term are entries
pub enter_entries : (σ : Setting) (s : ℕ) (terms : List Term) (t : Term) → Each (λ (y : Store). is_entry s y ≡ true) (enter_stores σ s terms t)
unfolding enter_stores
enter_entries σ s terms t = Each-append (row_entries s (sum_by text_words terms) (text_of t))
    (more (text_place_entry s (length terms) (sum_by text_words terms)) (more (cell_entry s (cell_of_next (2 * σ.terms) terms t) (length terms + 1)) none))

other_region : (s v : ℕ) (q : Region) (i w : ℕ) → (rank q == 5) ≡ false → (rank q == 3) ≡ false → (rank q == 2) ≡ false → is_entry s (slot v q i, w) ≡ false
other_region s v q i w a b c = no_entry s (slot v q i, w) (not_in s v text_region q i w a) (not_in s v text_place_region q i w b) (not_in s v cell_region q i w c)

pool_entry : (s v a w : ℕ) → is_entry s (pool_slot v a, w) ≡ false
unfolding pool_slot
pool_entry s v a w = region (a / 2 ^ 30) (a % 2 ^ 30)
  where
    region : (p i : ℕ) → is_entry s (slot v (pool_region p) i, w) ≡ false
    region zero i = other_region s v (pool_region 0) i w refl refl refl
    region (suc zero) i = other_region s v (pool_region 1) i w refl refl refl
    region (suc (suc zero)) i = other_region s v (pool_region 2) i w refl refl refl
    region (suc (suc (suc p))) i = other_region s v (pool_region 3) i w refl refl refl

append_none : (s : ℕ) (ts : List Term) (u : Term) (f x : ℕ) → Each (λ (y : Store). is_entry s y ≡ false) (append_stores s ts u f x)
unfolding append_stores
append_none s ts u f x = Each-append (Each-if (begins f && nat_le 1 (pool_at f)) (λ z. more (pool_entry s s (address_of u f ts - 1) (address_of u (f - 1) ts)) none))
    (more (pool_entry s s (address_of u f ts) x) (more (other_region s s tail_region (number_of u ts) (address_of u f ts + 1) refl refl refl) none))

-- the entries among the stores of the tokens of a segment
pub entries_picked : (σ : Setting) (s : ℕ) → Picks σ s (is_entry s) (λ ts. entries σ s [] (distinct ts))
unfolding entries token_stores
entries_picked σ s = record {
  nothing = ap (entries σ s []) distinct-nil;
  token = λ ts u x.
      (let E : List Store = if count_of u ts == 0 then enter_stores σ s (distinct ts) u else [] in
      let A : List Store = append_stores s ts u (count_of u ts) x in
      let a : filter (is_entry s) (token_stores σ s ts u x) ≡ filter (is_entry s) E =
      filter-append (is_entry s) E A ∙ ap (λ z. filter (is_entry s) E ++ z) (filter_none (is_entry s) A (append_none s ts u (count_of u ts) x)) ∙ append-nil (filter (is_entry s) E) in
      let o = once u ts in
      let d = distinct_push ts u in
      elim (with_term_cases (distinct ts) u) [
        | inl w ↦
            let there : (count_of u ts == 0) ≡ false = ne_eqb (count_of u ts) 0 (λ q. omega (arith, w.0)) in
            ap (entries σ s []) (d ∙ w.1) ∙ sym (append-nil (entries σ s [] (distinct ts)))
            ∙ ap (λ (b : Bool). entries σ s [] (distinct ts) ++ filter (is_entry s) (if b then enter_stores σ s (distinct ts) u else [])) (sym there)
            ∙ ap (λ z. entries σ s [] (distinct ts) ++ z) (sym a)
        | inr w ↦
            let new : (count_of u ts == 0) ≡ true = eq-eqb (count_of u ts) 0 (omega arith) in
            ap (entries σ s []) (d ∙ w.1) ∙ entries_push σ s [] (distinct ts) u
            ∙ ap (λ z. entries σ s [] (distinct ts) ++ z) (sym (filter_whole (is_entry s) (enter_stores σ s (distinct ts) u) (enter_entries σ s (distinct ts) u)))
            ∙ ap (λ (b : Bool). entries σ s [] (distinct ts) ++ filter (is_entry s) (if b then enter_stores σ s (distinct ts) u else [])) (sym new)
            ∙ ap (λ z. entries σ s [] (distinct ts) ++ z) (sym a)
      ]);
  first = λ v. other_region s s first_region 0 v refl refl refl;
  id = λ i v. other_region s s id_region i v refl refl refl;
  count = λ v. refl;
  elsewhere = λ y h. no_entry s y (elsewhere_in s text_region y h) (elsewhere_in s text_place_region y h) (elsewhere_in s cell_region y h);
}
