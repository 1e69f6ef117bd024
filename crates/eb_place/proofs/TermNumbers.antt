-- The terms of a segment and their numbers.
use Rattle.std.proofs.Common.{◌≡◌, ℕ, ◌<◌, ◌≤◌, List, [], ◌∷◌, length, get_or, sym, ◌∙◌, bytes_eq, arith, inl, inr}
use Rattle.std.proofs.lemmas.Bool.{cases_lt, cases_Bool}
use Rattle.eb_base.specs.Term.{Term}
use Rattle.eb_place.specs.declared.moment.Moment.{Moment}
use Rattle.eb_place.specs.Postings.{terms_of, distinct, count_of}
use Rattle.eb_place.specs.Seen.{segment}
use Rattle.eb_place.specs.Walk.{IsTerm}
use Rattle.eb_place.proofs.TermNumbersStay.{number_low, number_once, number_absent}
use Rattle.eb_place.proofs.EnteredTerms.{number_at}

-- a term occurs among others at most as often as they are many
pub count_at_most : (t : Term) (ts : List Term) → count_of t ts ≤ length ts
unfolding count_of
count_at_most t [] = omega arith
count_at_most t (u ∷ us) = let ih = count_at_most t us in elim (cases_Bool (bytes_eq t u)) [
  | inl here ↦ rw here (omega arith)
  | inr away ↦ rw away (omega arith)
]

-- the term at the number of a term is that term
pub term_of_number : (m : Moment) (s : ℕ) (t : Term) (k : ℕ) → IsTerm m s t k → (k < length (distinct (terms_of (segment m s)))) × (get_or (distinct (terms_of (segment m s))) k [] ≡ t)
term_of_number m s t k h =
    let ts = terms_of (segment m s) in
    let low = number_low t ts h.there in
    let l : k < length (distinct ts) = omega (arith, h.number) in
    let u = get_or (distinct ts) k [] in
    (l, sym (number_once t u ts h.there (sym h.number ∙ sym (number_at ts k l))))

-- and each number below that of all distinct terms is a term's
pub number_of_term : (m : Moment) (s k : ℕ) → s < m.setting.segments → k < length (distinct (terms_of (segment m s))) → IsTerm m s (get_or (distinct (terms_of (segment m s))) k []) k
number_of_term m s k ins h =
    let ts = terms_of (segment m s) in
    let u = get_or (distinct ts) k [] in
    let n = number_at ts k h in
    let there : 1 ≤ count_of u ts = elim (cases_lt 0 (count_of u ts)) [
      | inl low ↦ low
      | inr none ↦ let a = number_absent u ts (omega arith) in absurd (omega arith)
    ] in
    record { inside = ins; there = there; number = sym n }
