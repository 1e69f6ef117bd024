-- Runs: the longest of those that were seen, while the terms are read one by one.
use Rattle.std.proofs.Common.{◌≡◌, ◌⊎◌, inl, inr, ℕ, ◌+◌, ◌-◌, ◌<◌, ◌≤◌, Bool, true, false, not, List, [], length, get_or, bytes_eq, sym, ap, ◌∙◌, subst, arith}
use Rattle.std.proofs.lemmas.Bool.{cases_lt, not-true, not-false, false≢true}
use Rattle.std.proofs.lemmas.List.{get_or_default}
use Rattle.std.proofs.lemmas.Slice.Eq.{bytes_eq-Decides}
use Rattle.eb_cursor.specs.Runs.{IsRun}
use Rattle.eb_cursor.specs.declared.run.Run.{Run}

-- the terms from one on to before another are one
abbrev pub AreOne : List (List ℕ) → ℕ → ℕ → Type 0
AreOne ts from to = (k : ℕ) → from ≤ k → k < to → get_or ts k [] ≡ get_or ts from []

-- where the terms from one on are one to the end, they begin at this one or after it
abbrev pub BeginsAt : List (List ℕ) → ℕ → ℕ → Type 0
BeginsAt ts from end = (f : ℕ) → f < end → AreOne ts f end → from ≤ f

-- no run of the terms before the end has more of them than this one, and none before it as many
abbrev pub HasMost : List (List ℕ) → Run → ℕ → Type 0
HasMost ts run end = (r : Run) → IsRun ts r → r.to ≤ end → (r.to - r.from ≤ run.to - run.from) × (r.from < run.from → r.to - r.from < run.to - run.from)

-- where the terms that are one and end with the last begin
pub record Begun (ts : List (List ℕ)) (from end : ℕ) : Type 0 where
  pub low : from < end
  pub one : AreOne ts from end
  pub begins : BeginsAt ts from end

-- ---- where they begin, with the next term

begins_on : (ts : List (List ℕ)) (from end : ℕ) → from ≤ end → BeginsAt ts from end → BeginsAt ts from (end + 1)
begins_on ts from end l b f h one = elim (cases_lt f end) [
  | inl low ↦ b f low (λ k m n. one k m (omega (arith, n)))
  | inr high ↦ omega (arith, l, high)
]

begins_anew : (ts : List (List ℕ)) (from end : ℕ) → AreOne ts from end → BeginsAt ts from end → (get_or ts end [] ≡ get_or ts from [] → ⊥) → BeginsAt ts end (end + 1)
begins_anew ts from end own b other f h one = elim (cases_lt f end) [
  | inl low ↦
      let l = b f low (λ k m n. one k m (omega (arith, n))) in
      absurd (other (one end (omega (arith, low)) (omega arith) ∙ own f l low))
  | inr high ↦ omega (arith, high)
]

one_on : (ts : List (List ℕ)) (from end : ℕ) → AreOne ts from end → get_or ts end [] ≡ get_or ts from [] → AreOne ts from (end + 1)
one_on ts from end own same k l h = elim (cases_lt k end) [
  | inl low ↦ own k l low
  | inr high ↦ let e : k ≡ end = omega (arith, h, high) in ap (λ (i : ℕ). get_or ts i []) e ∙ same
]

-- it is as those are
begun_on : (ts : List (List ℕ)) (from end : ℕ) → from ≤ end → AreOne ts from end → BeginsAt ts from end → get_or ts end [] ≡ get_or ts from [] → Begun ts from (end + 1)
begun_on ts from end l own b same = record {
  low = omega (arith, l);
  one = one_on ts from end own same;
  begins = begins_on ts from end l b;
}

-- it isn't
begun_anew : (ts : List (List ℕ)) (from end : ℕ) → AreOne ts from end → BeginsAt ts from end → (get_or ts end [] ≡ get_or ts from [] → ⊥) → Begun ts end (end + 1)
begun_anew ts from end own b other = record {
  low = omega arith;
  one = λ k l h. let e : k ≡ end = omega (arith, l, h) in ap (λ (i : ℕ). get_or ts i []) e;
  begins = begins_anew ts from end own b other;
}

read_at : (ts : List (List ℕ)) (i : ℕ) (a : List ℕ) → i < length ts → a ≡ get_or ts i a → get_or ts i [] ≡ a
read_at ts i a w is = get_or_default ts i [] a w ∙ sym is

-- it was compared with the first of them
pub begun_next : (ts : List (List ℕ)) (from new end : ℕ) (a b : List ℕ) (other : Bool) → from ≤ end → end < length ts → AreOne ts from end → BeginsAt ts from end
    → a ≡ get_or ts end a → b ≡ get_or ts from b → other ≡ not (bytes_eq a b) → ((other ≡ true) × (new ≡ end)) ⊎ ((other ≡ false) × (new ≡ from)) → Begun ts new (end + 1)
begun_next ts from new end a b other l w own begins is_a is_b test next =
    let last = read_at ts end a w is_a in
    let first = read_at ts from b (omega (arith, l, w)) is_b in
    elim next [
      | inl it ↦
          let differ : bytes_eq a b ≡ false = not-true (bytes_eq a b) (sym test ∙ it.0) in
          subst (λ (k : ℕ). Begun ts k (end + 1)) (sym it.1)
          (begun_anew ts from end own begins (λ e. false≢true (sym differ ∙ (bytes_eq-Decides a b).1 (sym last ∙ e ∙ first))))
      | inr it ↦
          let same : a ≡ b = (bytes_eq-Decides a b).0 (not-false (bytes_eq a b) (sym test ∙ it.0)) in
          subst (λ (k : ℕ). Begun ts k (end + 1)) (sym it.1) (begun_on ts from end l own begins (last ∙ same ∙ sym first))
    ]

-- ---- which of the runs is the longest, with the next term

-- the run that ends with it is longer than all before
pub most_now : (ts : List (List ℕ)) (old run : Run) (end : ℕ) → run.to ≡ end + 1 → old.to - old.from < run.to - run.from → BeginsAt ts run.from (end + 1)
    → HasMost ts old end → HasMost ts run (end + 1)
most_now ts old run end e more b most r is h = elim (cases_lt end r.to) [
  | inl high ↦
      let at : r.to ≡ end + 1 = omega (arith, h, high) in
      let l = b r.from (omega (arith, is.several, at)) (λ k m n. is.one k m (omega (arith, n, at))) in
      (omega (arith, l, at, e), λ low. omega (arith, l, low))
  | inr low ↦ let m = (most r is low).0 in (omega (arith, m, more), λ x. omega (arith, m, more))
]

-- it isn't
pub most_still : (ts : List (List ℕ)) (run : Run) (from end : ℕ) → run.from ≤ run.to → run.to ≤ end → end + 1 - from ≤ run.to - run.from → BeginsAt ts from (end + 1)
    → HasMost ts run end → HasMost ts run (end + 1)
most_still ts run from end o w few b most r is h = elim (cases_lt end r.to) [
  | inl high ↦
      let at : r.to ≡ end + 1 = omega (arith, h, high) in
      let l = b r.from (omega (arith, is.several, at)) (λ k m n. is.one k m (omega (arith, n, at))) in
      (omega (arith, l, at, few), λ low. omega (arith, l, at, few, low, o, w))
  | inr low ↦ most r is low
]
