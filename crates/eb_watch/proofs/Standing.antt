-- Ends of terms that occur in their order, term by term.
use Rattle.std.proofs.Common.{◌≡◌, ◌⊎◌, ℕ, zero, suc, ◌+◌, ◌-◌, ◌<◌, ◌≤◌, nat_lt, eqb, true, false, List, [], ◌∷◌, length, drop, get_or, Some, slice_get, refl, sym, ap, ◌∙◌, arith}
use Rattle.std.proofs.Common.{inl, inr, subst, eq-eqb, drop-cons, length-drop}
use Rattle.std.specs.Prelude.{if◌then◌else◌, slice_set}
use Rattle.std.proofs.lemmas.Bool.{cases_Bool, cases_order, eqb-true, lt-ltb, le-ltb}
use Rattle.std.proofs.lemmas.List.{get_or-set_same, get_or-set_other, get_or-drop}
use Rattle.std.proofs.lemmas.Option.{slice_get_within}
use Rattle.eb_base.specs.Match.{Stand}
use Rattle.eb_watch.specs.Ends.{none, first_end, least, stepped, AreEnds, IsNear}

-- ---- the least of ends

pub least_below : (xs : List ℕ) (j : ℕ) → j < length xs → least xs ≤ get_or xs j 0
least_below [] j h = absurd (omega (arith, h))
least_below (e ∷ es) j h = elim (cases_Bool (nat_lt (least es) e)) [
  | inl y ↦ rw y (below j h (leb_of y) (λ i l. least_below es i l))
  | inr n ↦ rw n (above j h (not_of n) (λ i l. least_below es i l))
]
  where
    leb_of : nat_lt (least es) e ≡ true → least es < e
    leb_of y = ltb_true (least es) e y
      where
        ltb_true : (a b : ℕ) → nat_lt a b ≡ true → a < b
        ltb_true a b y = elim (cases_order a b) [
          | inl s ↦ let f : nat_lt a b ≡ false = le-ltb a b (omega (arith, s)) in let no : ⊥ = cc (y, f) in absurd no
          | inr o ↦ elim o [
            | inl lt ↦ lt
            | inr gt ↦ let f : nat_lt a b ≡ false = le-ltb a b (omega (arith, gt)) in let no : ⊥ = cc (y, f) in absurd no
          ]
        ]

    not_of : nat_lt (least es) e ≡ false → e ≤ least es
    not_of n = elim (cases_order (least es) e) [
      | inl s ↦ omega (arith, s)
      | inr o ↦ elim o [
        | inl lt ↦ let t : nat_lt (least es) e ≡ true = lt-ltb (least es) e lt in let no : ⊥ = cc (n, t) in absurd no
        | inr gt ↦ omega (arith, gt)
      ]
    ]

    below : (j : ℕ) → j < length (e ∷ es) → least es < e → ((i : ℕ) → i < length es → least es ≤ get_or es i 0) → least es ≤ get_or (e ∷ es) j 0
    below zero h l more = omega (arith, l)
    below (suc j) h l more = more j (omega (arith, h))

    above : (j : ℕ) → j < length (e ∷ es) → e ≤ least es → ((i : ℕ) → i < length es → least es ≤ get_or es i 0) → e ≤ get_or (e ∷ es) j 0
    above zero h l more = omega arith
    above (suc j) h l more = let b = more j (omega (arith, h)) in omega (arith, b, l)

pub least_in : (xs : List ℕ) → (least xs ≡ none) ⊎ ((j : ℕ) × (j < length xs) × (get_or xs j 0 ≡ least xs))
least_in [] = inl refl
least_in (e ∷ es) = elim (cases_Bool (nat_lt (least es) e)) [
  | inl y ↦ rw y (elim (least_in es) [
    | inl n ↦ inl n
    | inr w ↦ inr (suc w.0, omega (arith, w.1), w.2)
  ])
  | inr n ↦ rw n (inr (zero, omega arith, refl))
]

-- ---- one step of `put_next`

-- the places from `at` on have their ends
pub record IsTold (number at : ℕ) (places old ends : List ℕ) (m : ℕ) : Type 0 where
  pub long : length ends ≡ length places
  pub within : at ≤ length places
  pub front : (k : ℕ) → k < at → get_or ends k 0 ≡ get_or old k 0
  pub behind : (k : ℕ) → at ≤ k → k < length places → get_or ends k 0 ≡ stepped number places old k
  pub lowest : m ≡ least (drop at old)

pub next_told : (number p m v w : ℕ) (places old ends : List ℕ) → length old ≡ length places → IsTold number (suc p) places old ends m
    → v ≡ (if eqb (get_or places p 0) number then m else none) → w ≡ (if nat_lt m (get_or ends p 0) then m else get_or ends p 0)
    → IsTold number p places old (slice_set ends p v) w
next_told number p m v w places old ends same told is lesser = record {
  long = length_set ends p v ∙ told.long;
  within = omega (arith, told.within);
  front = λ k l. get_or-set_other ends p k v 0 (λ e. absurd (omega (arith, e, l))) ∙ told.front k (omega (arith, l));
  behind = behind;
  lowest = lesser ∙ ap (λ x. if nat_lt m x then m else x) (told.front p (omega arith))
      ∙ ap (λ x. if nat_lt x (get_or old p 0) then x else get_or old p 0) told.lowest ∙ sym (ap least (drop-cons old p 0 (omega (arith, same, told.within))));
}
  where
    length_set : (xs : List ℕ) (i x : ℕ) → length (slice_set xs i x) ≡ length xs
    length_set [] i x = refl
    length_set (y ∷ ys) zero x = refl
    length_set (y ∷ ys) (suc i) x = ap suc (length_set ys i x)

    behind : (k : ℕ) → p ≤ k → k < length places → get_or (slice_set ends p v) k 0 ≡ stepped number places old k
    behind k l h = elim (cases_order p k) [
      | inl s ↦ subst (λ (j : ℕ). get_or (slice_set ends p v) j 0 ≡ stepped number places old j) s
          (get_or-set_same ends p v 0 (omega (arith, told.long, told.within)) ∙ is ∙ ap (λ x. if eqb (get_or places p 0) number then x else none) told.lowest)
      | inr o ↦ elim o [
        | inl lt ↦ get_or-set_other ends p k v 0 (λ e. absurd (omega (arith, e, lt))) ∙ told.behind k (omega (arith, lt)) h
        | inr gt ↦ absurd (omega (arith, gt, l))
      ]
    ]

-- ---- ends of terms, by the places that have a number

-- the places of the number are those of the term
abbrev pub ArePlaces : List ℕ → List (List ℕ) → ℕ → List ℕ → Type 0
ArePlaces places terms number t = (k : ℕ) → k < length terms → ((get_or places k 0 ≡ number → slice_get terms k ≡ Some t) × (slice_get terms k ≡ Some t → get_or places k 0 ≡ number))

pub first_ends : (terms : List (List ℕ)) (t : List ℕ) (places ends : List ℕ) (number : ℕ) → ArePlaces places terms number t
    → ((k : ℕ) → k < length terms → get_or ends k 0 ≡ first_end number (get_or places k 0) k) → AreEnds terms (t ∷ []) ends
first_ends terms t places ends number at is = record {
  stand = λ k h. elim (cases_Bool (eqb (get_or places k 0) number)) [
    | inl y ↦ inr ((at k h).0 (eqb-true _ _ y), is k h ∙ rw y refl)
    | inr n ↦ inl (is k h ∙ rw n refl)
  ];
  lowest = λ k l s.
      let h = slice_get_within terms k t s.0 in
      let e : get_or ends k 0 ≡ k = is k h ∙ rw (eq-eqb (get_or places k 0) number ((at k h).1 s.0)) refl in
      omega (arith, e, s.1);
}

pub next_ends : (terms : List (List ℕ)) (t u : List ℕ) (us : List (List ℕ)) (places old ends : List ℕ) (number : ℕ) → length old ≡ length terms → ArePlaces places terms number t
    → AreEnds terms (u ∷ us) old → ((k : ℕ) → k < length terms → get_or ends k 0 ≡ stepped number places old k) → AreEnds terms (t ∷ u ∷ us) ends
next_ends terms t u us places old ends number long at before is = record {
  stand = λ k h. elim (cases_Bool (eqb (get_or places k 0) number)) [
    | inl y ↦ let e : get_or ends k 0 ≡ least (drop (suc k) old) = is k h ∙ rw y refl in
        behind k (at k h) (eqb-true _ _ y) e (least_in (drop (suc k) old))
    | inr n ↦ inl (is k h ∙ rw n refl)
  ];
  lowest = λ k l s. go k l s.0 s.1.0 s.1.1 s.1.2;
}
  where
    behind : (k : ℕ) → ((get_or places k 0 ≡ number → slice_get terms k ≡ Some t) × (slice_get terms k ≡ Some t → get_or places k 0 ≡ number)) → get_or places k 0 ≡ number
        → get_or ends k 0 ≡ least (drop (suc k) old) → (least (drop (suc k) old) ≡ none) ⊎ ((j : ℕ) × (j < length (drop (suc k) old)) × (get_or (drop (suc k) old) j 0 ≡ least (drop (suc k) old)))
        → (get_or ends k 0 ≡ none) ⊎ Stand terms (t ∷ u ∷ us) k (get_or ends k 0)
    behind k here has e (inl n) = inl (e ∙ n)
    behind k here has e (inr w) =
        let same : get_or old (suc k + w.0) 0 ≡ get_or ends k 0 = sym (get_or-drop (suc k) old w.0 0) ∙ w.2 ∙ sym e in
        elim (before.stand (suc k + w.0) (omega (arith, w.1, length-drop (suc k) old, long))) [
          | inl n ↦ inl (sym same ∙ n)
          | inr s ↦ inr (here.0 has, (suc k + w.0, omega arith, subst (λ (x : ℕ). Stand terms (u ∷ us) (suc k + w.0) x) same s))
        ]

    inside : (us : List (List ℕ)) (n l : ℕ) → Stand terms (u ∷ us) n l → n < length terms
    inside [] n l s = slice_get_within terms n u s.0
    inside (v ∷ us) n l s = slice_get_within terms n u s.0

    go : (k l : ℕ) → slice_get terms k ≡ Some t → (n : ℕ) → k < n → Stand terms (u ∷ us) n l → get_or ends k 0 ≤ l
    go k l here n less s =
        let h = slice_get_within terms k t here in
        let e : get_or ends k 0 ≡ least (drop (suc k) old) = is k h ∙ rw (eq-eqb (get_or places k 0) number ((at k h).1 here)) refl in
        let inner : n < length terms = inside us n l s in
        let few = least_below (drop (suc k) old) (n - suc k) (omega (arith, less, inner, long, length-drop (suc k) old)) in
        let there : get_or (drop (suc k) old) (n - suc k) 0 ≡ get_or old n 0 = get_or-drop (suc k) old (n - suc k) 0 ∙ ap (λ (i : ℕ). get_or old i 0) (omega (arith, less)) in
        let last = before.lowest n l s in
        omega (arith, e, few, there, last)

-- ---- where terms occur

-- each of the terms is one of the document's
pub stand_has : (terms ts : List (List ℕ)) (f l : ℕ) → Stand terms ts f l → (j : ℕ) → j < length ts → (k : ℕ) × (slice_get terms k ≡ Some (get_or ts j []))
stand_has terms [] f l s j h = absurd s
stand_has terms (t ∷ []) f l s zero h = (f, s.0)
stand_has terms (t ∷ []) f l s (suc j) h = absurd (omega (arith, h))
stand_has terms (t ∷ u ∷ ts) f l s zero h = (f, s.0)
stand_has terms (t ∷ u ∷ ts) f l s (suc j) h = stand_has terms (u ∷ ts) s.1.0 l s.1.2 j (omega (arith, h))

-- they take as many places as they are
pub stand_long : (terms ts : List (List ℕ)) (f l : ℕ) → Stand terms ts f l → f + length ts ≤ l + 1
stand_long terms [] f l s = absurd s
stand_long terms (t ∷ []) f l s = omega (arith, s.1)
stand_long terms (t ∷ u ∷ ts) f l s = let h = stand_long terms (u ∷ ts) s.1.0 l s.1.2 in omega (arith, h, s.1.1)

-- the places are within the document
pub stand_first : (terms ts : List (List ℕ)) (f l : ℕ) → Stand terms ts f l → f < length terms
stand_first terms [] f l s = absurd s
stand_first terms (t ∷ []) f l s = slice_get_within terms f t s.0
stand_first terms (t ∷ u ∷ ts) f l s = slice_get_within terms f t s.0

pub stand_last : (terms ts : List (List ℕ)) (f l : ℕ) → Stand terms ts f l → l < length terms
stand_last terms [] f l s = absurd s
stand_last terms (t ∷ []) f l s = let h = slice_get_within terms f t s.0 in omega (arith, h, s.1)
stand_last terms (t ∷ u ∷ ts) f l s = stand_last terms (u ∷ ts) s.1.0 l s.1.2

-- some end is near exactly where the terms occur so
abbrev pub StandNear : List (List ℕ) → List (List ℕ) → ℕ → Type 0
StandNear terms ts reach = (first : ℕ) × (last : ℕ) × Stand terms ts first last × (last ≤ first + reach)

pub near_stands : (terms ts : List (List ℕ)) (ends : List ℕ) (reach : ℕ) → length ends ≡ length terms → AreEnds terms ts ends → IsNear ends reach → StandNear terms ts reach
near_stands terms ts ends reach long are near = elim (are.stand near.0 (omega (arith, near.1, long))) [
  | inl n ↦ absurd (near.2 n)
  | inr s ↦ (near.0, get_or ends near.0 0, s, near.3)
]

pub stands_near : (terms ts : List (List ℕ)) (ends : List ℕ) (reach : ℕ) → length ends ≡ length terms → length terms ≤ none → AreEnds terms ts ends → StandNear terms ts reach → IsNear ends reach
stands_near terms ts ends reach long fits are w =
    let few = are.lowest w.0 w.1 w.2 in
    let inner = stand_last terms ts w.0 w.1 w.2 in
    let first = stand_first terms ts w.0 w.1 w.2 in
    (w.0, omega (arith, first, long), λ e. absurd (omega (arith, e, few, inner, fits)), omega (arith, few, w.3))
