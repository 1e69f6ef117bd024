-- The cells of the terms of a segment: one a term, each the first free one from the term's home
-- cell on.
use Rattle.std.proofs.Common.{◌≡◌, ℕ, zero, suc, ◌<◌, ◌≤◌, ◌==◌, ◌||◌, Bool, true, false, List, [], ◌∷◌, ◌++◌, length, get_or, refl, ap, sym, ◌∙◌, subst, arith, inl, inr, append-nil, append_assoc}
use Rattle.std.specs.List.{position_or_len}
use Rattle.std.proofs.lemmas.Bool.{cases_lt, false≢true, eq-eqb, eqb-true}
use Rattle.std.proofs.lemmas.List.{length_push, length-append, get_or_append_left}
use Rattle.std.proofs.lemmas.List.Sums.{fold_push, passes_at_first}
use Rattle.std.proofs.Math.Seq.{get_or-append_seam}
use Rattle.std.proofs.Math.Nat.{mod-lt}
use mathlib.Core.List.{IsPrefix}
use Rattle.eb_base.specs.Term.{Term}
use Rattle.eb_place.specs.Placing.{cells_of, with_cell, cell_of_next, free_from, hash, home_cell}
use Rattle.eb_place.proofs.TermCounts.{by_push}
use Rattle.eb_place.proofs.FreeCells.{is_taken, cell_at, free_from_is, free_from_free, position_in}
use Rattle.eb_place.proofs.Prefixes.{prefix_trans}
use Rattle.eb_place.proofs.StoresWithinTable.{cell_within}

-- one cell a term
pub length-cells_of : (cells : ℕ) (terms : List Term) → length (cells_of cells terms) ≡ length terms
unfolding cells_of
length-cells_of cells = by_push (λ ts. length (cells_of cells ts) ≡ length ts) refl (λ ts t h. ap length (fold_push (with_cell cells) [] ts t)
    ∙ length_push (cells_of cells ts) (free_from cells (cells_of cells ts) (length (cells_of cells ts)) (home_cell cells t)) ∙ omega (arith, h, length_push ts t))

-- with one more term
pub cells_of_push : (cells : ℕ) (terms : List Term) (t : Term) → cells_of cells (terms ++ t ∷ []) ≡ cells_of cells terms ++ cell_of_next cells terms t ∷ []
unfolding cells_of cell_of_next
cells_of_push cells terms t = fold_push (with_cell cells) [] terms t ∙ ap (λ n. cells_of cells terms ++ free_from cells (cells_of cells terms) n (home_cell cells t) ∷ []) (length-cells_of cells terms)

-- and with further terms
pub cells_of_front : (cells : ℕ) (xs ys : List Term) → IsPrefix (cells_of cells xs) (cells_of cells (xs ++ ys))
cells_of_front cells xs [] = ([], append-nil (cells_of cells xs) ∙ ap (cells_of cells) (sym (append-nil xs)))
cells_of_front cells xs (y ∷ ys) =
    prefix_trans (cells_of cells xs) (cells_of cells (xs ++ y ∷ [])) (cells_of cells (xs ++ (y ∷ ys))) (cell_of_next cells xs y ∷ [], sym (cells_of_push cells xs y))
    (subst (λ z. IsPrefix (cells_of cells (xs ++ y ∷ [])) (cells_of cells z)) (append_assoc xs (y ∷ []) ys) (cells_of_front cells (xs ++ y ∷ []) ys))

-- a term keeps its cell
pub cell_stays : (cells : ℕ) (xs ys : List Term) (k : ℕ) → k < length xs → get_or (cells_of cells (xs ++ ys)) k 0 ≡ get_or (cells_of cells xs) k 0
cell_stays cells xs ys k h = let p = cells_of_front cells xs ys in ap (λ z. get_or z k 0) (sym p.1) ∙ get_or_append_left (cells_of cells xs) p.0 0 k (omega (arith, length-cells_of cells xs))

-- the cell of the last term
pub cell_last : (cells : ℕ) (terms : List Term) (t : Term) → get_or (cells_of cells (terms ++ t ∷ [])) (length terms) 0 ≡ cell_of_next cells terms t
cell_last cells terms t = ap (λ z. get_or z (length terms) 0) (cells_of_push cells terms t)
    ∙ ap (λ k. get_or (cells_of cells terms ++ cell_of_next cells terms t ∷ []) k 0) (sym (length-cells_of cells terms)) ∙ get_or-append_seam (cells_of cells terms) (cell_of_next cells terms t) [] 0

-- an element of a list is taken
pub taken_here : (xs : List ℕ) (k : ℕ) → k < length xs → is_taken xs (get_or xs k 0) ≡ true
taken_here [] k h = absurd (omega arith)
taken_here (x ∷ xs) zero h = rw (eq-eqb x x refl) refl
taken_here (x ∷ xs) (suc k) h = true_right (get_or xs k 0 == x) (is_taken xs (get_or xs k 0)) (taken_here xs k (omega arith))
  where
    true_right : (a b : Bool) → b ≡ true → (a || b) ≡ true
    true_right true b e = refl
    true_right false b e = e

-- one more element of the list
pub taken_push : (xs : List ℕ) (x c : ℕ) → is_taken (xs ++ x ∷ []) c ≡ (is_taken xs c || (c == x))
taken_push [] x c = or_false (c == x)
  where
    or_false : (b : Bool) → (b || false) ≡ (false || b)
    or_false true = refl
    or_false false = refl
taken_push (y ∷ xs) x c = ap (λ b. (c == y) || b) (taken_push xs x c) ∙ sym (or_assoc (c == y) (is_taken xs c) (c == x))
  where
    or_assoc : (a b d : Bool) → ((a || b) || d) ≡ (a || (b || d))
    or_assoc true b d = refl
    or_assoc false b d = refl

-- and what is taken is in the list
pub taken_where : (xs : List ℕ) (c : ℕ) → is_taken xs c ≡ true → (k : ℕ) × (k < length xs) × (get_or xs k 0 ≡ c)
taken_where xs c h =
    let l = position_in (λ k. c == k) xs h in
    (position_or_len (λ k. c == k) xs, l, sym (eqb-true c (get_or xs (position_or_len (λ k. c == k) xs) 0) (passes_at_first (λ k. c == k) xs 0 l)))

-- the cell of a term is taken
pub cell_taken : (cells : ℕ) (terms : List Term) (k : ℕ) → k < length terms → is_taken (cells_of cells terms) (get_or (cells_of cells terms) k 0) ≡ true
cell_taken cells terms k h = taken_here (cells_of cells terms) k (omega (arith, length-cells_of cells terms))

-- what is taken stays taken with further terms
pub taken_stays : (cells : ℕ) (xs ys : List Term) (c : ℕ) → is_taken (cells_of cells xs) c ≡ true → is_taken (cells_of cells (xs ++ ys)) c ≡ true
taken_stays cells xs ys c h =
    let w = taken_where (cells_of cells xs) c h in
    let l = w.1 in
    let n = length-cells_of cells xs in
    ap (is_taken (cells_of cells (xs ++ ys))) (sym (cell_stays cells xs ys w.0 (omega arith) ∙ w.2)) ∙ cell_taken cells (xs ++ ys) w.0 (omega (arith, length-append xs ys))

-- the cell of a next term is free before it
pub next_is_free : (cells : ℕ) (terms : List Term) (t : Term) → length terms < cells → is_taken (cells_of cells terms) (cell_of_next cells terms t) ≡ false
unfolding cell_of_next
next_is_free cells terms t h = let l = length-cells_of cells terms in
    ap (λ n. is_taken (cells_of cells terms) (free_from cells (cells_of cells terms) n (home_cell cells t))) (sym l)
    ∙ free_from_free cells (cells_of cells terms) (home_cell cells t) (mod-lt (hash t) (omega arith)) (omega arith)

-- where a free cell is met after taken ones, it is the cell of the next term
pub next_is : (cells : ℕ) (terms : List Term) (t : Term) (k : ℕ) → 1 ≤ cells → length terms < cells
    → ((i : ℕ) → i < k → is_taken (cells_of cells terms) (cell_at cells (home_cell cells t) i) ≡ true) → is_taken (cells_of cells terms) (cell_at cells (home_cell cells t) k) ≡ false
    → cell_of_next cells terms t ≡ cell_at cells (home_cell cells t) k
unfolding cell_of_next
next_is cells terms t k some few before free =
    let r = free_from_is cells (cells_of cells terms) (length terms) (home_cell cells t) (mod-lt (hash t) some) in
    elim (cases_lt r.steps k) [
      | inl low ↦ absurd (false≢true (sym (next_is_free cells terms t few) ∙ ap (is_taken (cells_of cells terms)) r.is ∙ before r.steps low))
      | inr high ↦ elim (cases_lt k r.steps) [
        | inl over ↦ absurd (false≢true (sym free ∙ r.before k over))
        | inr under ↦ r.is ∙ ap (cell_at cells (home_cell cells t)) (let e : r.steps ≡ k = omega arith in e)
      ]
    ]

-- so not all cells are taken
pub next_not_all : (cells : ℕ) (terms : List Term) (t : Term) (k : ℕ) → cells ≤ k → length terms < cells
    → ((i : ℕ) → i < k → is_taken (cells_of cells terms) (cell_at cells (home_cell cells t) i) ≡ true) → ⊥
unfolding cell_of_next
next_not_all cells terms t k all few taken =
    let r = free_from_is cells (cells_of cells terms) (length terms) (home_cell cells t) (mod-lt (hash t) (omega arith)) in
    false≢true (sym (next_is_free cells terms t few) ∙ ap (is_taken (cells_of cells terms)) r.is ∙ taken r.steps (omega (arith, r.within)))

-- cells are cells
pub cell_low : (cells : ℕ) (terms : List Term) → 1 ≤ cells → (k : ℕ) → k < length terms → get_or (cells_of cells terms) k 0 < cells
cell_low cells terms h = by_push (λ ts. (k : ℕ) → k < length ts → get_or (cells_of cells ts) k 0 < cells) (λ k l. absurd (omega arith)) step terms
  where
    step : (ts : List Term) (t : Term) → ((k : ℕ) → k < length ts → get_or (cells_of cells ts) k 0 < cells) → (k : ℕ) → k < length (ts ++ t ∷ []) → get_or (cells_of cells (ts ++ t ∷ [])) k 0 < cells
    step ts t ih k l = elim (cases_lt k (length ts)) [
      | inl low ↦ omega (arith, cell_stays cells ts (t ∷ []) k low, ih k low)
      | inr high ↦ omega (arith, ap (λ j. get_or (cells_of cells (ts ++ t ∷ [])) j 0) (let q : k ≡ length ts = omega (arith, length_push ts t) in q), cell_last cells ts t, cell_within ts t cells h)
    ]

-- the cell of a term: some steps from its home cell, and all cells before it are taken
pub record Steps_to (cells : ℕ) (terms : List Term) (k : ℕ) : Type 0 where
  pub steps : ℕ
  pub few : steps ≤ k
  pub is : get_or (cells_of cells terms) k 0 ≡ cell_at cells (home_cell cells (get_or terms k [])) steps
  pub before : (i : ℕ) → i < steps → is_taken (cells_of cells terms) (cell_at cells (home_cell cells (get_or terms k [])) i) ≡ true

pub steps_to : (cells : ℕ) (terms : List Term) → 1 ≤ cells → (k : ℕ) → k < length terms → Steps_to cells terms k
unfolding cell_of_next
steps_to cells terms h = by_push (λ ts. (k : ℕ) → k < length ts → Steps_to cells ts k) (λ k l. absurd (omega arith)) step terms
  where
    step : (ts : List Term) (t : Term) → ((k : ℕ) → k < length ts → Steps_to cells ts k) → (k : ℕ) → k < length (ts ++ t ∷ []) → Steps_to cells (ts ++ t ∷ []) k
    step ts t ih k l = elim (cases_lt k (length ts)) [
      | inl low ↦
          let r = ih k low in
          let g : get_or (ts ++ t ∷ []) k [] ≡ get_or ts k [] = get_or_append_left ts (t ∷ []) [] k low in
          record {
            steps = r.steps;
            few = r.few;
            is = cell_stays cells ts (t ∷ []) k low ∙ r.is ∙ ap (λ z. cell_at cells (home_cell cells z) r.steps) (sym g);
            before = λ i o. ap (λ z. is_taken (cells_of cells (ts ++ t ∷ [])) (cell_at cells (home_cell cells z) i)) g
                ∙ taken_stays cells ts (t ∷ []) (cell_at cells (home_cell cells (get_or ts k [])) i) (r.before i o);
          }
      | inr high ↦
          let q : k ≡ length ts = omega (arith, length_push ts t) in
          let g : get_or (ts ++ t ∷ []) k [] ≡ t = ap (λ j. get_or (ts ++ t ∷ []) j []) q ∙ get_or-append_seam ts t [] [] in
          let r = free_from_is cells (cells_of cells ts) (length ts) (home_cell cells t) (mod-lt (hash t) h) in
          record {
            steps = r.steps;
            few = omega (arith, r.within);
            is = ap (λ j. get_or (cells_of cells (ts ++ t ∷ [])) j 0) q ∙ cell_last cells ts t ∙ r.is ∙ ap (λ z. cell_at cells (home_cell cells z) r.steps) (sym g);
            before = λ i o. ap (λ z. is_taken (cells_of cells (ts ++ t ∷ [])) (cell_at cells (home_cell cells z) i)) g
                ∙ taken_stays cells ts (t ∷ []) (cell_at cells (home_cell cells t) i) (r.before i o);
          }
    ]

-- two terms have two cells
pub cell_of_one : (cells : ℕ) (terms : List Term) → length terms ≤ cells → (i j : ℕ) → i < length terms
    → j < length terms → get_or (cells_of cells terms) i 0 ≡ get_or (cells_of cells terms) j 0 → i ≡ j
cell_of_one cells =
    by_push (λ ts. length ts ≤ cells → (i j : ℕ) → i < length ts → j < length ts → get_or (cells_of cells ts) i 0 ≡ get_or (cells_of cells ts) j 0 → i ≡ j) (λ few i j l k e. absurd (omega arith)) step
  where
    new : (ts : List Term) (t : Term) → length (ts ++ t ∷ []) ≤ cells → (i : ℕ) → i < length ts → get_or (cells_of cells (ts ++ t ∷ [])) i 0 ≡ get_or (cells_of cells (ts ++ t ∷ [])) (length ts) 0 → ⊥
    new ts t few i l e = false≢true (sym (next_is_free cells ts t (omega (arith, length_push ts t)))
        ∙ ap (is_taken (cells_of cells ts)) (sym (sym (cell_stays cells ts (t ∷ []) i l) ∙ e ∙ cell_last cells ts t)) ∙ cell_taken cells ts i l)

    step : (ts : List Term) (t : Term) → (length ts ≤ cells → (i j : ℕ) → i < length ts → j < length ts → get_or (cells_of cells ts) i 0 ≡ get_or (cells_of cells ts) j 0 → i ≡ j)
        → length (ts ++ t ∷ []) ≤ cells → (i j : ℕ) → i < length (ts ++ t ∷ []) → j < length (ts ++ t ∷ [])
        → get_or (cells_of cells (ts ++ t ∷ [])) i 0 ≡ get_or (cells_of cells (ts ++ t ∷ [])) j 0 → i ≡ j
    step ts t ih few i j l k e =
        let n = length_push ts t in
        elim (cases_lt i (length ts)) [
          | inl a ↦ elim (cases_lt j (length ts)) [
            | inl b ↦ ih (omega arith) i j a b (sym (cell_stays cells ts (t ∷ []) i a) ∙ e ∙ cell_stays cells ts (t ∷ []) j b)
            | inr b ↦ absurd (new ts t few i a (e ∙ ap (λ z. get_or (cells_of cells (ts ++ t ∷ [])) z 0) (let q : j ≡ length ts = omega arith in q)))
          ]
          | inr a ↦ elim (cases_lt j (length ts)) [
            | inl b ↦ absurd (new ts t few j b (sym e ∙ ap (λ z. get_or (cells_of cells (ts ++ t ∷ [])) z 0) (let q : i ≡ length ts = omega arith in q)))
            | inr b ↦ omega arith
          ]
        ]
