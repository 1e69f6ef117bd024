-- A new term gets a free cell, and the cells between its home cell and it are taken.
use Rattle.std.proofs.Common.{◌≡◌, ℕ, zero, suc, ◌+◌, ◌-◌, ◌%◌, ◌<◌, ◌≤◌, ◌⊎◌, Bool, true, false, cond, ◌==◌, List, [], ◌∷◌, length, get_or, ap, sym, ◌∙◌, subst, arith, inl, inr}
use Rattle.std.specs.List.{list_any, position_or_len}
use Rattle.std.proofs.lemmas.Bool.{cases_Bool, cases_lt, eqb-true, false≢true}
use Rattle.std.proofs.lemmas.List.Sums.{passes_at_first}
use Rattle.std.proofs.Math.Nat.{mod-lt, mod-eq_of_lt, mod-add-mod, mod-eq-sub-mod}
use Rattle.std_collections.proofs.IndexTableLemmas.Probe.{pigeonhole, Into, OneToOne}
use Rattle.eb_place.specs.Placing.{free_from}

-- the k-th cell from c on
abbrev pub cell_at : ℕ → ℕ → ℕ → ℕ
cell_at cells c k = (c + k) % cells

-- the cell is one of these
abbrev pub is_taken : List ℕ → ℕ → Bool
is_taken taken c = list_any (λ k. c == k) taken

-- the cell found is the k-th from c on, and those before it are taken; it is free, or as many are
-- taken as were tried
pub record Found (cells : ℕ) (taken : List ℕ) (n c found : ℕ) : Type 0 where
  pub steps : ℕ
  pub within : steps ≤ n
  pub is : found ≡ cell_at cells c steps
  pub before : (k : ℕ) → k < steps → is_taken taken (cell_at cells c k) ≡ true
  pub free : steps < n → is_taken taken found ≡ false

at_none : (cells c : ℕ) → c < cells → c ≡ cell_at cells c 0
at_none cells c h = sym (ap (λ n. n % cells) (let e : c + 0 ≡ c = omega arith in e) ∙ mod-eq_of_lt h)

at_more : (cells c k : ℕ) → cell_at cells ((c + 1) % cells) k ≡ cell_at cells c (k + 1)
at_more cells c k = mod-add-mod (c + 1) cells k ∙ ap (λ n. n % cells) (let e : (c + 1) + k ≡ c + (k + 1) = omega arith in e)

-- the cell that is found is free, with none free before it
pub free_from_is : (cells : ℕ) (taken : List ℕ) (n c : ℕ) → c < cells → Found cells taken n c (free_from cells taken n c)
free_from_is cells taken zero c h = record { steps = 0; within = omega arith; is = at_none cells c h; before = λ k l. absurd (omega arith); free = λ l. absurd (omega arith) }
free_from_is cells taken (suc n) c h = elim (cases_Bool (is_taken taken c)) [
  | inl full ↦ let r = free_from_is cells taken n ((c + 1) % cells) (mod-lt (c + 1) (omega arith)) in
      subst (λ (b : Bool). Found cells taken (suc n) c (cond b (free_from cells taken n ((c + 1) % cells)) c)) (sym full)
      (record {
        steps = r.steps + 1;
        within = omega (arith, r.within);
        is = r.is ∙ at_more cells c r.steps;
        before = before r full;
        free = λ l. r.free (omega arith);
      })
  | inr empty ↦ subst (λ (b : Bool). Found cells taken (suc n) c (cond b (free_from cells taken n ((c + 1) % cells)) c)) (sym empty)
      (record { steps = 0; within = omega arith; is = at_none cells c h; before = λ k l. absurd (omega arith); free = λ l. empty })
]
  where
    before : (r : Found cells taken n ((c + 1) % cells) (free_from cells taken n ((c + 1) % cells))) → is_taken taken c ≡ true → (k : ℕ) → k < r.steps + 1 → is_taken taken (cell_at cells c k) ≡ true
    before r full zero l = ap (is_taken taken) (sym (at_none cells c h)) ∙ full
    before r full (suc k) l = ap (is_taken taken) (ap (cell_at cells c) (let e : suc k ≡ k + 1 = omega arith in e) ∙ sym (at_more cells c k)) ∙ r.before k (omega arith)

cell_cases : (cells c k : ℕ) → c < cells → k < cells → (cell_at cells c k ≡ c + k) ⊎ (cell_at cells c k + cells ≡ c + k)
cell_cases cells c k h l = elim (cases_lt (c + k) cells) [
  | inl low ↦ inl (mod-eq_of_lt low)
  | inr high ↦ inr (let e = mod-eq-sub-mod high in let f : (c + k - cells) % cells ≡ c + k - cells = mod-eq_of_lt (omega arith) in omega arith)
]

-- as many steps from one cell as there are cells meet each of them once
pub cell_once : (cells c i j : ℕ) → c < cells → i < cells → j < cells → cell_at cells c i ≡ cell_at cells c j → i ≡ j
cell_once cells c i j h hi hj e = elim (cell_cases cells c i h hi) [
  | inl a ↦ elim (cell_cases cells c j h hj) [ inl b ↦ omega arith | inr b ↦ omega arith ]
  | inr a ↦ elim (cell_cases cells c j h hj) [ inl b ↦ omega arith | inr b ↦ omega arith ]
]

-- where some element passes, its place is in the list
pub position_in : {X : Type 0} (p : X → Bool) (xs : List X) → list_any p xs ≡ true → position_or_len p xs < length xs
position_in p [] h = absurd (false≢true h)
position_in p (x ∷ xs) h = elim (cases_Bool (p x)) [
  | inl here ↦ rw here (omega arith)
  | inr away ↦ let h' : list_any p xs ≡ true = rw away at h in rw away (omega (arith, position_in p xs h'))
]

-- not all of n + 1 different cells are among n
crowded : (cells : ℕ) (taken : List ℕ) (c : ℕ) → c < cells → length taken < cells → ((k : ℕ) → k < length taken + 1 → is_taken taken (cell_at cells c k) ≡ true) → ⊥
crowded cells taken c h few all =
    let f : ℕ → ℕ = λ k. position_or_len (λ y. cell_at cells c k == y) taken in
    let into : Into f (length taken + 1) (length taken) = λ k l. position_in (λ y. cell_at cells c k == y) taken (all k l) in
    let at : (k : ℕ) → k < length taken + 1 → cell_at cells c k ≡ get_or taken (f k) 0 = λ k l. eqb-true _ _ (passes_at_first (λ y. cell_at cells c k == y) taken 0 (into k l)) in
    let one : OneToOne f (length taken + 1) = λ i j p q e. cell_once cells c i j h (omega arith) (omega arith) (at i p ∙ ap (λ n. get_or taken n 0) e ∙ sym (at j q)) in
    let bad = pigeonhole (length taken + 1) (length taken) f into one in
    omega arith

-- where fewer cells are taken than there are, the cell found is free
pub free_from_free : (cells : ℕ) (taken : List ℕ) (c : ℕ) → c < cells → length taken < cells → is_taken taken (free_from cells taken (length taken) c) ≡ false
free_from_free cells taken c h few = let r = free_from_is cells taken (length taken) c h in elim (cases_lt r.steps (length taken)) [
  | inl l ↦ r.free l
  | inr l ↦ elim (cases_Bool (is_taken taken (free_from cells taken (length taken) c))) [
    | inl full ↦ absurd (crowded cells taken c h few (all r full l))
    | inr empty ↦ empty
  ]
]
  where
    all : (r : Found cells taken (length taken) c (free_from cells taken (length taken) c)) → is_taken taken (free_from cells taken (length taken) c) ≡ true → length taken ≤ r.steps
        → (k : ℕ) → k < length taken + 1 → is_taken taken (cell_at cells c k) ≡ true
    all r full l k m = elim (cases_lt k r.steps) [
      | inl a ↦ r.before k a
      | inr a ↦ let e : k ≡ r.steps = omega (arith, r.within) in ap (is_taken taken) (ap (cell_at cells c) e ∙ sym r.is) ∙ full
    ]

-- the cells of terms differ from each other
pub record Apart (xs : List ℕ) : Type 0 where
  pub apart : (i j : ℕ) → i < length xs → j < i → get_or xs i 0 ≡ get_or xs j 0 → ⊥
