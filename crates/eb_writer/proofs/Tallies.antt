-- Counting what a document needs, token by token.
use Rattle.std.proofs.Common.{◌≡◌, ℕ, zero, suc, ◌+◌, ◌-◌, ◌<◌, ◌≤◌, Bool, true, false, List, [], ◌∷◌, ◌++◌, length}
use Rattle.std.proofs.Common.{drop, sum_by, refl, ap, sym, ◌∙◌, arith, inl, inr, slice_get, slice_set, Some}
use Rattle.std.proofs.lemmas.Bool.{cases_lt}
use Rattle.std.proofs.lemmas.List.{length_push}
use Rattle.std.proofs.lemmas.List.Sums.{sum_by_push, sum_by-cons}
use Rattle.eb_base.specs.Term.{Term}
use Rattle.eb_base.specs.Document.{most_bytes}
use Rattle.eb_place.specs.declared.used.Used.{Used}
use Rattle.eb_place.specs.Postings.{distinct, count_of, number_of}
use Rattle.eb_place.specs.Room.{text_words}
use Rattle.eb_place.specs.Address.{begins_in, slices_begun}
use Rattle.eb_place.proofs.TermCounts.{one_if, begun_push, with_term_cases, once, distinct_push}
use Rattle.eb_place.proofs.TermNumbersStay.{number_absent, number_low}
use Rattle.eb_writer.specs.Counting.{IsUsedBy, IsSmall}

pub one_low : (b : Bool) → one_if b ≤ 1
one_low true = omega arith
one_low false = omega arith

-- the slices of one more token
pub slice_more : (p f e : ℕ) (t : Term) (before : List Term) (u v a : ℕ) → f + e ≡ count_of t before
    → a ≡ one_if (begins_in p (f + e)) → v ≡ u + a → u ≡ slices_begun p before → v ≡ slices_begun p (before ++ t ∷ [])
slice_more p f e t before u v a c k l h = omega (arith, begun_push p before t, ap (λ n. one_if (begins_in p n)) c)

-- a token whose term is there already, and one whose term is new
pub distinct_old : (t : Term) (before : List Term) → 1 ≤ count_of t before → distinct (before ++ t ∷ []) ≡ distinct before
distinct_old t before h = elim (with_term_cases (distinct before) t) [
  | inl w ↦ distinct_push before t ∙ w.1
  | inr w ↦ absurd (omega (arith, once t before, w.0))
]

pub distinct_new : (t : Term) (before : List Term) → count_of t before ≡ 0 → distinct (before ++ t ∷ []) ≡ distinct before ++ t ∷ []
distinct_new t before h = elim (with_term_cases (distinct before) t) [
  | inl w ↦ absurd (omega (arith, once t before, w.0))
  | inr w ↦ distinct_push before t ∙ w.1
]

-- its number says which of the two
pub number_tells_new : (t : Term) (before : List Term) → number_of t before ≡ length (distinct before) → count_of t before ≡ 0
number_tells_new t before e = elim (cases_lt 0 (count_of t before)) [
  | inl l ↦ absurd (omega (arith, number_low t before l))
  | inr l ↦ omega arith
]

pub number_tells_old : (t : Term) (before : List Term) → (number_of t before ≡ length (distinct before) → ⊥) → 1 ≤ count_of t before
number_tells_old t before e = elim (cases_lt 0 (count_of t before)) [
  | inl l ↦ l
  | inr l ↦ absurd (e (number_absent t before (omega arith)))
]

pub used_new : (u v : Used) (t : Term) (before : List Term) → count_of t before ≡ 0 → IsUsedBy u before → v.terms ≡ u.terms + 1 → v.text ≡ u.text + text_words t
    → v.pool0 ≡ slices_begun 0 (before ++ t ∷ []) → v.pool1 ≡ slices_begun 1 (before ++ t ∷ [])
    → v.pool2 ≡ slices_begun 2 (before ++ t ∷ []) → v.pool3 ≡ slices_begun 3 (before ++ t ∷ []) → IsUsedBy v (before ++ t ∷ [])
used_new u v t before z h a b p0 p1 p2 p3 =
    let e = distinct_new t before z in
    record {
      terms = omega (arith, h.terms, ap length e, length_push (distinct before) t);
      text = omega (arith, h.text, ap (sum_by text_words) e, sum_by_push text_words (distinct before) t);
      pool0 = p0;
      pool1 = p1;
      pool2 = p2;
      pool3 = p3;
    }

pub used_old : (u v : Used) (t : Term) (before : List Term) → 1 ≤ count_of t before → IsUsedBy u before → v.terms ≡ u.terms → v.text ≡ u.text
    → v.pool0 ≡ slices_begun 0 (before ++ t ∷ []) → v.pool1 ≡ slices_begun 1 (before ++ t ∷ [])
    → v.pool2 ≡ slices_begun 2 (before ++ t ∷ []) → v.pool3 ≡ slices_begun 3 (before ++ t ∷ []) → IsUsedBy v (before ++ t ∷ [])
used_old u v t before z h a b p0 p1 p2 p3 =
    let e = distinct_old t before z in
    record {
      terms = a ∙ h.terms ∙ sym (ap length e);
      text = b ∙ h.text ∙ sym (ap (sum_by text_words) e);
      pool0 = p0;
      pool1 = p1;
      pool2 = p2;
      pool3 = p3;
    }

-- the numbers stay small
pub small_more : (u v : Used) (t : Term) (before : List Term) (n : ℕ) → length t ≤ most_bytes → IsUsedBy u before → IsUsedBy v (before ++ t ∷ []) → IsSmall u n → IsSmall v (n + 1)
small_more u v t before n short h k s =
    let c = count_of t before in
    let p0 = one_low (begins_in 0 c) in
    let p1 = one_low (begins_in 1 c) in
    let p2 = one_low (begins_in 2 c) in
    let p3 = one_low (begins_in 3 c) in
    let w = grows in
    record {
      terms = omega (arith, h.terms, k.terms, s.terms, w.0);
      text = omega (arith, h.text, k.text, s.text, w.1);
      pool0 = omega (arith, h.pool0, k.pool0, s.pool0, begun_push 0 before t, p0);
      pool1 = omega (arith, h.pool1, k.pool1, s.pool1, begun_push 1 before t, p1);
      pool2 = omega (arith, h.pool2, k.pool2, s.pool2, begun_push 2 before t, p2);
      pool3 = omega (arith, h.pool3, k.pool3, s.pool3, begun_push 3 before t, p3);
    }
  where
    grows : (length (distinct (before ++ t ∷ [])) ≤ length (distinct before) + 1) × (sum_by text_words (distinct (before ++ t ∷ [])) ≤ sum_by text_words (distinct before) + most_bytes)
    grows = elim (with_term_cases (distinct before) t) [
      | inl w ↦ let e = distinct_push before t ∙ w.1 in (omega (arith, ap length e), omega (arith, ap (sum_by text_words) e))
      | inr w ↦ let e = distinct_push before t ∙ w.1 in
          (omega (arith, ap length e, length_push (distinct before) t), omega (arith, ap (sum_by text_words) e, sum_by_push text_words (distinct before) t))
    ]

-- a token is no longer than all of them
pub token_short : (ts : List Term) (i : ℕ) (t : Term) → slice_get ts i ≡ Some t → length t ≤ sum_by length ts
token_short [] i t e = absurd cc
token_short (x ∷ xs) zero t e = let q : x ≡ t = cc in omega (arith, ap length q, sum_by-cons length x xs)
token_short (x ∷ xs) (suc i) t e = omega (arith, token_short xs i t e, sum_by-cons length x xs)

drop_suc : {X : Type 0} (xs : List X) (i : ℕ) (x : X) → slice_get xs i ≡ Some x → drop i xs ≡ x ∷ drop (suc i) xs
drop_suc [] i x e = absurd cc
drop_suc (y ∷ xs) zero x e = let q : y ≡ x = cc in ap (λ z. z ∷ xs) q
drop_suc (y ∷ xs) (suc i) x e = drop_suc xs i x e

pub drop_one : {X : Type 0} (xs : List X) (i : ℕ) (x : X) → slice_get xs i ≡ Some x → drop i xs ≡ x ∷ drop (i + 1) xs
drop_one xs i x e = drop_suc xs i x e ∙ ap (λ k. x ∷ drop k xs) (let q : suc i ≡ i + 1 = omega arith in q)

-- elements after a write
pub set_get_here : {X : Type 0} (xs : List X) (i : ℕ) (v w : X) → slice_get (slice_set xs i v) i ≡ Some w → w ≡ v
set_get_here [] i v w e = absurd cc
set_get_here (x ∷ xs) zero v w e = cc
set_get_here (x ∷ xs) (suc i) v w e = set_get_here xs i v w e

pub set_get_other : {X : Type 0} (xs : List X) (i j : ℕ) (v : X) → j < i → slice_get (slice_set xs i v) j ≡ slice_get xs j
set_get_other [] i j v l = refl
set_get_other (x ∷ xs) zero j v l = absurd (omega arith)
set_get_other (x ∷ xs) (suc i) zero v l = refl
set_get_other (x ∷ xs) (suc i) (suc j) v l = set_get_other xs i j v (omega arith)

pub length_written : {X : Type 0} (xs : List X) (i : ℕ) (v : X) → length (slice_set xs i v) ≡ length xs
length_written [] i v = refl
length_written (x ∷ xs) zero v = refl
length_written (x ∷ xs) (suc i) v = ap suc (length_written xs i v)
