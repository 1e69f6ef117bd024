-- The number of a term stays as more tokens come.
use Rattle.std.proofs.Common.{◌≡◌, ◌+◌, ◌<◌, ◌≤◌, Bool, true, false, List, [], ◌∷◌, ◌++◌, length, get_or, refl, ap, sym, ◌∙◌, arith, inl, inr, bytes_eq, append-nil, append_assoc}
use Rattle.std.specs.List.{list_any, position_or_len}
use Rattle.std.proofs.lemmas.Bool.{cases_Bool, lt-ltb, false≢true}
use Rattle.std.proofs.lemmas.List.{length_push}
use Rattle.std.proofs.lemmas.List.Sums.{passes_at_first}
use Rattle.eb_base.specs.Term.{Term}
use Rattle.eb_place.specs.Postings.{count_of, distinct, number_of}
use Rattle.eb_place.proofs.TermCounts.{same_term, same_from_test, count_of_push, distinct_push, with_term_cases, any_count, once}
use Rattle.eb_place.proofs.FreeCells.{position_in}

position_keeps : {X : Type 0} (p : X → Bool) (xs ys : List X) → list_any p xs ≡ true → position_or_len p (xs ++ ys) ≡ position_or_len p xs
position_keeps p [] ys h = absurd (false≢true h)
position_keeps p (x ∷ xs) ys h = elim (cases_Bool (p x)) [
  | inl here ↦ rw here refl
  | inr away ↦ let h' : list_any p xs ≡ true = rw away at h in rw away (ap (λ n. 1 + n) (position_keeps p xs ys h'))
]

position_new : {X : Type 0} (p : X → Bool) (xs : List X) (y : X) → list_any p xs ≡ false → p y ≡ true → (position_or_len p (xs ++ y ∷ []) ≡ length xs) × (position_or_len p xs ≡ length xs)
position_new p [] y h e = (rw e refl, refl)
position_new p (x ∷ xs) y h e = elim (cases_Bool (p x)) [
  | inl here ↦ absurd (let h' : true ≡ false = rw here at h in false≢true (sym h'))
  | inr away ↦ let h' : list_any p xs ≡ false = rw away at h in let r = position_new p xs y h' e in (rw away (omega (arith, r.0)), rw away (omega (arith, r.1)))
]

-- an element of a list is one of its distinct terms
pub among : (t : Term) (ts : List Term) → 1 ≤ count_of t ts → list_any (bytes_eq t) (distinct ts) ≡ true
among t ts h = any_count t (distinct ts) ∙ lt-ltb 0 (count_of t (distinct ts)) (omega (arith, once t ts))

-- a term that is there keeps its number with one more token
pub number_keeps : (t u : Term) (ts : List Term) → 1 ≤ count_of t ts → number_of t (ts ++ u ∷ []) ≡ number_of t ts
number_keeps t u ts h = let d = distinct_push ts u in elim (with_term_cases (distinct ts) u) [
  | inl w ↦ ap (position_or_len (bytes_eq t)) (d ∙ w.1)
  | inr w ↦ ap (position_or_len (bytes_eq t)) (d ∙ w.1) ∙ position_keeps (bytes_eq t) (distinct ts) (u ∷ []) (among t ts h)
]

-- a new term gets the number that it will have
pub number_here : (u : Term) (ts : List Term) → number_of u (ts ++ u ∷ []) ≡ number_of u ts
number_here u ts = let d = distinct_push ts u in elim (with_term_cases (distinct ts) u) [
  | inl w ↦ ap (position_or_len (bytes_eq u)) (d ∙ w.1)
  | inr w ↦
      let none : list_any (bytes_eq u) (distinct ts) ≡ false = any_count u (distinct ts) ∙ ap (λ n. Rattle.std.specs.Prelude.nat_lt 0 n) w.0 in
      let r = position_new (bytes_eq u) (distinct ts) u none (same_term u) in
      ap (position_or_len (bytes_eq u)) (d ∙ w.1) ∙ r.0 ∙ sym r.1
]

-- and with further tokens
pub number_stays : (t : Term) (xs ys : List Term) → 1 ≤ count_of t xs → number_of t (xs ++ ys) ≡ number_of t xs
number_stays t xs [] h = ap (number_of t) (append-nil xs)
number_stays t xs (y ∷ ys) h = ap (number_of t) (sym (append_assoc xs (y ∷ []) ys)) ∙ number_stays t (xs ++ y ∷ []) ys (omega (arith, count_of_push t y xs)) ∙ number_keeps t y xs h

-- a number is below that of the distinct terms
pub number_low : (t : Term) (ts : List Term) → 1 ≤ count_of t ts → number_of t ts < length (distinct ts)
number_low t ts h = position_in (bytes_eq t) (distinct ts) (among t ts h)

-- two terms have two numbers
pub number_once : (t u : Term) (ts : List Term) → 1 ≤ count_of t ts → number_of t ts ≡ number_of u ts → t ≡ u
number_once t u ts h e =
    let l = number_low t ts h in
    let a = same_from_test t _ (passes_at_first (bytes_eq t) (distinct ts) [] l) in
    let b = same_from_test u _ (passes_at_first (bytes_eq u) (distinct ts) [] (omega (arith, l, e))) in
    a ∙ ap (λ k. get_or (distinct ts) k []) e ∙ sym b

-- distinct terms become no fewer
pub distinct_grows : (ts : List Term) (u : Term) → length (distinct ts) ≤ length (distinct (ts ++ u ∷ []))
distinct_grows ts u = let d = ap length (distinct_push ts u) in elim (with_term_cases (distinct ts) u) [
  | inl w ↦ omega (arith, d, ap length w.1)
  | inr w ↦ omega (arith, d, ap length w.1, length_push (distinct ts) u)
]

-- a term that isn't there will get the next number
pub number_absent : (t : Term) (ts : List Term) → count_of t ts ≡ 0 → number_of t ts ≡ length (distinct ts)
number_absent t ts h =
    let z : count_of t (distinct ts) ≡ 0 = omega (arith, once t ts) in
    let none : list_any (bytes_eq t) (distinct ts) ≡ false = any_count t (distinct ts) ∙ ap (λ n. Rattle.std.specs.Prelude.nat_lt 0 n) z in
    (position_new (bytes_eq t) (distinct ts) t none (same_term t)).1

position_after : {X : Type 0} (p : X → Bool) (xs ys : List X) → list_any p xs ≡ false → length xs ≤ position_or_len p (xs ++ ys)
position_after p [] ys h = omega arith
position_after p (x ∷ xs) ys h = elim (cases_Bool (p x)) [
  | inl here ↦ absurd (let h' : true ≡ false = rw here at h in false≢true (sym h'))
  | inr away ↦ let h' : list_any p xs ≡ false = rw away at h in rw away (omega (arith, position_after p xs ys h'))
]

-- the distinct terms of a prefix come first
pub distinct_more : (xs ys : List Term) → (rest : List Term) × (distinct (xs ++ ys) ≡ distinct xs ++ rest)
distinct_more xs [] = ([], ap distinct (append-nil xs) ∙ sym (append-nil (distinct xs)))
distinct_more xs (y ∷ ys) =
    let r = distinct_more (xs ++ y ∷ []) ys in
    let e : distinct (xs ++ (y ∷ ys)) ≡ distinct (xs ++ y ∷ []) ++ r.0 = ap distinct (sym (append_assoc xs (y ∷ []) ys)) ∙ r.1 in
    elim (with_term_cases (distinct xs) y) [
      | inl w ↦ (r.0, e ∙ ap (λ z. z ++ r.0) (distinct_push xs y ∙ w.1))
      | inr w ↦ (y ∷ r.0, e ∙ ap (λ z. z ++ r.0) (distinct_push xs y ∙ w.1) ∙ append_assoc (distinct xs) (y ∷ []) r.0)
    ]

-- a term that comes later has a greater number
pub number_high : (t : Term) (xs ys : List Term) → count_of t xs ≡ 0 → length (distinct xs) ≤ number_of t (xs ++ ys)
number_high t xs ys h =
    let z : count_of t (distinct xs) ≡ 0 = omega (arith, once t xs) in
    let away : list_any (bytes_eq t) (distinct xs) ≡ false = any_count t (distinct xs) ∙ ap (λ n. Rattle.std.specs.Prelude.nat_lt 0 n) z in
    let r = distinct_more xs ys in
    omega (arith, position_after (bytes_eq t) (distinct xs) r.0 away, ap (position_or_len (bytes_eq t)) r.1)
