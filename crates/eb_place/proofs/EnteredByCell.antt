-- A term is entered exactly where the store of its cell is done.
use Rattle.std.proofs.Common.{◌≡◌, ℕ, zero, suc, ◌+◌, ◌*◌, ◌<◌, ◌≤◌, ◌==◌, true, List, [], ◌∷◌, length, get_or, count_by, Contains, refl, ap, sym, ◌∙◌, subst, arith, inl, inr, bytes_eq}
use Rattle.std.proofs.lemmas.Bool.{cases_Bool, cases_lt, eq-eqb, eqb-true}
use Rattle.std.proofs.Math.ListN.{get_or-eq_default}
use Rattle.std.proofs.lemmas.List.Elements.{Contains-append_right}
use Rattle.std.proofs.lemmas.List.Sums.{sum_by-cons, passes_at_first}
use native.Mathlib.Decide.{ℕ_discrete}
use Rattle.eb_place.specs.declared.moment.Moment.{Moment}
use Rattle.eb_place.specs.Layout.{place}
use Rattle.eb_place.specs.Layout.Slot.{slot}
use Rattle.eb_place.specs.Layout.Region.{cell_region}
use Rattle.eb_place.specs.Postings.{terms_of, distinct, number_of}
use Rattle.eb_place.specs.Placing.{pairs_of, cells_of}
use Rattle.eb_place.specs.Moments.{with_current, placings, value_after, document_stores, word, IsMoment}
use Rattle.eb_place.specs.Seen.{segment, entered, IsEntered}
use Rattle.eb_place.specs.StoringLaws.{cell_in, EnteredWithTheCell}
use Rattle.eb_place.proofs.TermCounts.{one_if, same_from_test}
use Rattle.eb_place.proofs.PlacesOfSlots.{InTable}
use Rattle.eb_place.proofs.FreeCells.{is_taken}
use Rattle.eb_place.proofs.WordsOfTokens.{val, times, times-append}
use Rattle.eb_place.proofs.RegionStores.{started_stores, placings_within}
use Rattle.eb_place.proofs.ReaderWords.{word_of_writer, moment_words}
use Rattle.eb_place.proofs.CellsOfTerms.{length-cells_of, cell_stays, cell_low, taken_where}
use Rattle.eb_place.proofs.DictionaryAtMoment.{dictionary, entered_done_is, cell_in_table, cell_not_packed}
use Rattle.eb_place.proofs.EnteredTerms.{number_found, number_is, distinct_of, entered_at}
use Rattle.eb_place.proofs.StoredOnceInAll.{all_grown, times_once}

-- ---- values of a place

-- a place that isn't stored keeps its value
unstored : (p w : ℕ) (xs : List (ℕ × ℕ)) → count_by (λ (z : ℕ × ℕ). z.0 == p) xs ≡ 0 → value_after p w xs ≡ w
unfolding value_after
unstored p w [] h = refl
unstored p w (x ∷ xs) h = let n = sum_by-cons (λ (z : ℕ × ℕ). one_if (z.0 == p)) x xs in elim (cases_Bool (x.0 == p)) [
  | inl here ↦ absurd (omega (arith, h, n, ap one_if here))
  | inr away ↦ rw away (unstored p w xs (omega (arith, h, n, ap one_if away)))
]

-- what is in the list is stored
is_stored : (p v : ℕ) (xs : List (ℕ × ℕ)) (k : ℕ) → k < length xs → get_or xs k (p, v) ≡ (p, v) → 1 ≤ count_by (λ (z : ℕ × ℕ). z.0 == p) xs
is_stored p v [] k l e = absurd (omega arith)
is_stored p v (x ∷ xs) zero l e = omega (arith, sum_by-cons (λ (z : ℕ × ℕ). one_if (z.0 == p)) x xs, ap one_if (eq-eqb x.0 p (ap (λ (z : ℕ × ℕ). z.0) e)))
is_stored p v (x ∷ xs) (suc k) l e = omega (arith, sum_by-cons (λ (z : ℕ × ℕ). one_if (z.0 == p)) x xs, is_stored p v xs k (omega arith) e)

-- the value of a place that is stored once
stored_value : (p v w : ℕ) (xs : List (ℕ × ℕ)) (k : ℕ) → count_by (λ (z : ℕ × ℕ). z.0 == p) xs ≤ 1 → k < length xs → get_or xs k (p, v) ≡ (p, v) → value_after p w xs ≡ v
unfolding value_after
stored_value p v w [] k few l e = absurd (omega arith)
stored_value p v w (x ∷ xs) zero few l e =
    let here : (x.0 == p) ≡ true = eq-eqb x.0 p (ap (λ (z : ℕ × ℕ). z.0) e) in
    let n = sum_by-cons (λ (z : ℕ × ℕ). one_if (z.0 == p)) x xs in
    rw here (unstored p x.1 xs (omega (arith, few, n, ap one_if here)) ∙ ap (λ (z : ℕ × ℕ). z.1) e)
stored_value p v w (x ∷ xs) (suc k) few l e = let n = sum_by-cons (λ (z : ℕ × ℕ). one_if (z.0 == p)) x xs in elim (cases_Bool (x.0 == p)) [
  | inl here ↦ absurd (omega (arith, few, n, ap one_if here, is_stored p v xs k (omega arith) e))
  | inr away ↦ rw away (stored_value p v w xs k (omega (arith, few, n)) (omega arith) e)
]

-- a value that the place didn't have before was stored
stored_where : (p v w : ℕ) (xs : List (ℕ × ℕ)) → value_after p w xs ≡ v → (w ≡ v → ⊥) → Contains xs (p, v)
unfolding value_after
stored_where p v w [] e new = absurd (new e)
stored_where p v w (x ∷ xs) e new = elim (cases_Bool (x.0 == p)) [
  | inl here ↦ elim (ℕ_discrete x.1 v) [
    | yes same ↦ (0, omega arith, λ i. (eqb-true x.0 p here i, same i))
    | no other ↦ Contains-append_right (x ∷ []) xs (p, v) (stored_where p v x.1 xs (rw here at e) other)
  ]
  | inr away ↦ Contains-append_right (x ∷ []) xs (p, v) (stored_where p v w xs (rw away at e) new)
]

-- ---- cells

-- each cell is stored at most once until a moment
cell_once : (m : Moment) (s c : ℕ) → IsMoment m → InTable m.setting (slot s cell_region c) → times m.setting (document_stores m.setting m.documents) (slot s cell_region c) ≤ 1
unfolding document_stores
cell_once m s c is i =
    let σ = m.setting in
    let x = slot s cell_region c in
    let P = placings σ (with_current m.documents) in
    let p = started_stores σ m.documents.accepted m.documents.current in
    let one = times_once σ P x (all_grown σ (with_current m.documents) is.setting is.lawful).single
    (placings_within σ (with_current m.documents) is.setting is.lawful) i (record { count = λ e. absurd cc; tails = λ v k e. absurd cc }) in
    omega (arith, one, ap (λ z. times σ z x) (sym p.1), times-append σ (document_stores σ m.documents) p.0 x)

pub entered_cell : EnteredWithTheCell
entered_cell m s t is inside = (done, there)
  where
    done : IsEntered m s t → Contains (pairs_of m.setting (document_stores m.setting m.documents)) (place m.setting (slot s cell_region (cell_in m s t)), number_of t (terms_of (segment m s)) + 1)
    done h =
        let σ = m.setting in
        let C = 2 * σ.terms in
        let T = terms_of (segment m s) in
        let E = entered m s in
        let w = number_found m s t h in
        let k = w.0 in
        let d = entered_done_is m s in
        let dict = dictionary m s is inside in
        let few = dict.room.few in
        let number : number_of t T ≡ k = ap (λ z. number_of z T) (sym w.2) ∙ number_is m s k w.1 in
        let c = get_or (cells_of C E) k 0 in
        let cell : cell_in m s t ≡ c = (λ i. get_or (cells_of C (d.all i)) (number i) 0) ∙ cell_stays C E d.left k w.1 in
        let x = slot s cell_region c in
        let table = cell_in_table σ s c inside (cell_low C E (omega arith) k w.1) in
        let value : val σ (document_stores σ m.documents) x ≡ k + 1 = sym (word_of_writer m x is table (cell_not_packed s c)) ∙ dict.cell k w.1 in
        let found = stored_where (place σ x) (k + 1) 0 (pairs_of σ (document_stores σ m.documents)) value (λ z. omega arith) in
        subst (λ (z : ℕ × ℕ). Contains (pairs_of σ (document_stores σ m.documents)) (place σ (slot s cell_region z.0), z.1 + 1)) (λ i. (sym cell i, sym number i)) found

    there : Contains (pairs_of m.setting (document_stores m.setting m.documents)) (place m.setting (slot s cell_region (cell_in m s t)), number_of t (terms_of (segment m s)) + 1) → IsEntered m s t
    there h =
        let σ = m.setting in
        let C = 2 * σ.terms in
        let T = terms_of (segment m s) in
        let D = distinct T in
        let E = entered m s in
        let L = document_stores σ m.documents in
        let n = number_of t T in
        let c = cell_in m s t in
        let x = slot s cell_region c in
        let dict = dictionary m s is inside in
        let words_are = moment_words m s is inside in
        let room = words_are.room.some in
        let some : 1 ≤ C = omega arith in
        let low : c < C = elim (cases_lt n (length D)) [
          | inl l ↦ cell_low C D some n l
          | inr l ↦ omega (arith, get_or-eq_default (cells_of C D) 0 {n = n} (omega (arith, l, length-cells_of C D)))
        ] in
        let table = cell_in_table σ s c inside low in
        let value : val σ L x ≡ n + 1 = stored_value (place σ x) (n + 1) 0 (pairs_of σ L) h.0 (cell_once m s c is table) h.1 h.2 in
        let words : word m (place σ x) ≡ n + 1 = word_of_writer m x is table (cell_not_packed s c) ∙ value in
        elim (cases_Bool (is_taken (cells_of C E) c)) [
          | inr free ↦ absurd (omega (arith, words, dict.free c low free))
          | inl taken ↦
              let w = taken_where (cells_of C E) c taken in
              let here : w.0 < length E = omega (arith, w.1, length-cells_of C E) in
              let same : n ≡ w.0 = omega (arith, words, dict.cell w.0 here, ap (λ z. word m (place σ (slot s cell_region z))) w.2) in
              let in_E : n < length E = omega arith in
              let d = distinct_of m s n in_E in
              entered_at m s n t in_E (sym d.1 ∙ sym (same_from_test t (get_or D n []) (passes_at_first (bytes_eq t) D [] d.0)))
        ]
