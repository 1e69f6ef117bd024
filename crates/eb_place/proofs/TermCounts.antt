-- Counts of terms, and the slices begun by a list of tokens.
use Rattle.std.proofs.Common.{◌≡◌, ℕ, zero, suc, ◌+◌, ◌*◌, ◌<◌, ◌≤◌, Bool, true, false, cond, List, [], ◌∷◌, ◌++◌, length, min}
use Rattle.std.proofs.Common.{refl, ap, sym, ◌∙◌, subst, append_assoc, append-nil, arith, sum_by, inl, inr, bytes_eq, nat_lt, ◌⊎◌}
use Rattle.std.specs.List.{list_any}
use Rattle.std.proofs.lemmas.List.Sums.{fold_push, sum_by-cons, sum_by_push}
use Rattle.std.proofs.lemmas.List.{length_push}
use Rattle.std.proofs.lemmas.Slice.Eq.{bytes_eq-Decides}
use Rattle.std.proofs.lemmas.Bool.{cases_Bool, lt-ltb}
use Rattle.std.proofs.lemmas.Bool.Decides.{nat_tests, same_from_decides, Decides-like}
use Rattle.eb_base.specs.Term.{Term}
use Rattle.eb_place.specs.Postings.{count_of, distinct, with_term}
use Rattle.eb_place.specs.Room.{slices, all_slices}
use Rattle.eb_place.specs.Address.{pool_at, offset_at, slice_start, begins_in, slices_begun, begun_after}

-- induction from the end
pub by_push : {X : Type 0} (P : List X → Type 0) → P [] → ((xs : List X) (x : X) → P xs → P (xs ++ x ∷ [])) → (xs : List X) → P xs
by_push {X} P none more xs = go [] xs none
  where
    go : (ys zs : List X) → P ys → P (ys ++ zs)
    go ys [] h = subst P (sym (append-nil ys)) h
    go ys (z ∷ zs) h = subst P (append_assoc ys (z ∷ []) zs) (go (ys ++ z ∷ []) zs (more ys z h))

-- 1 where the test passes
abbrev pub one_if : Bool → ℕ
one_if b = cond b 1 0

-- one more token counts where it is the term
pub count_of_push : (t u : Term) (ts : List Term) → count_of t (ts ++ u ∷ []) ≡ count_of t ts + one_if (bytes_eq t u)
unfolding count_of
count_of_push t u [] = omega arith
count_of_push t u (x ∷ xs) = omega (arith, count_of_push t u xs)

-- no token is none of the term
pub count_of-nil : (t : Term) → count_of t [] ≡ 0
unfolding count_of
count_of-nil t = refl

-- the head counts where it is the term
pub count_of-cons : (t u : Term) (ts : List Term) → count_of t (u ∷ ts) ≡ one_if (bytes_eq t u) + count_of t ts
unfolding count_of
count_of-cons t u ts = refl

-- the counts of two lists add up
pub count_of-append : (t : Term) (xs ys : List Term) → count_of t (xs ++ ys) ≡ count_of t xs + count_of t ys
unfolding count_of
count_of-append t [] ys = omega arith
count_of-append t (x ∷ xs) ys = omega (arith, count_of-append t xs ys)

-- a term is itself
pub same_term : (t : Term) → bytes_eq t t ≡ true
same_term t = (bytes_eq-Decides t t).1 refl

-- the slices begun in two lists add up
pub begun_after-append : (p : ℕ) (before xs ys : List Term) → begun_after p before (xs ++ ys) ≡ begun_after p before xs + begun_after p (before ++ xs) ys
unfolding begun_after
begun_after-append p before [] ys = rw append-nil (omega arith)
begun_after-append p before (x ∷ xs) ys = let e : (before ++ x ∷ []) ++ xs ≡ before ++ (x ∷ xs) = append_assoc before (x ∷ []) xs in
    let ih = begun_after-append p (before ++ x ∷ []) xs ys in
    let ih' = rw e at ih in omega (arith, ih')

-- one more token begins one slice or none
pub begun_push : (p : ℕ) (ts : List Term) (t : Term) → slices_begun p (ts ++ t ∷ []) ≡ slices_begun p ts + one_if (begins_in p (count_of t ts))
unfolding begun_after
begun_push p ts t = begun_after-append p [] ts (t ∷ []) ∙ omega arith

-- the distinct terms with one more token
pub distinct_push : (ts : List Term) (t : Term) → distinct (ts ++ t ∷ []) ≡ with_term (distinct ts) t
unfolding distinct
distinct_push ts t = fold_push with_term [] ts t

-- no token, no term
pub distinct-nil : distinct [] ≡ []
unfolding distinct
distinct-nil = refl

-- the slices of a term with one more posting
slices_more_0 : (f : ℕ) → slices 0 (f + 1) ≡ slices 0 f + one_if (begins_in 0 f)
unfolding pool_at offset_at slice_start
slices_more_0 f = grind (arith, nat_tests)

slices_more_1 : (f : ℕ) → slices 1 (f + 1) ≡ slices 1 f + one_if (begins_in 1 f)
unfolding pool_at offset_at slice_start
slices_more_1 f = grind (arith, nat_tests)

slices_more_2 : (f : ℕ) → slices 2 (f + 1) ≡ slices 2 f + one_if (begins_in 2 f)
unfolding pool_at offset_at slice_start
slices_more_2 f = grind (arith, nat_tests)

slices_more_3 : (f : ℕ) → slices 3 (f + 1) ≡ slices 3 f + one_if (begins_in 3 f)
unfolding pool_at offset_at slice_start
slices_more_3 f = grind (arith, nat_tests)

-- one more posting takes one more slice exactly where it begins one
pub slices_more : (p f : ℕ) → p < 4 → slices p (f + 1) ≡ slices p f + one_if (begins_in p f)
slices_more zero f h = slices_more_0 f
slices_more (suc zero) f h = slices_more_1 f
slices_more (suc (suc zero)) f h = slices_more_2 f
slices_more (suc (suc (suc zero))) f h = slices_more_3 f
slices_more (suc (suc (suc (suc p)))) f h = absurd (omega arith)

slices_none : (p : ℕ) → slices p 0 ≡ 0
slices_none zero = refl
slices_none (suc zero) = refl
slices_none (suc (suc zero)) = refl
slices_none (suc (suc (suc p))) = refl

-- each element with the term grows by c, and no other
sum_one_more : (g h : Term → ℕ) (t : Term) (c : ℕ) (same : (u : Term) → bytes_eq t u ≡ false → h u ≡ g u) (more : (u : Term) → bytes_eq t u ≡ true → h u ≡ g u + c)
    (xs : List Term) → sum_by h xs ≡ sum_by g xs + count_of t xs * c
sum_one_more g h t c same more [] = rw count_of-nil (omega arith)
sum_one_more g h t c same more (x ∷ xs) =
    let ih = sum_one_more g h t c same more xs in
    let a = sum_by-cons h x xs in
    let b = sum_by-cons g x xs in
    let d = count_of-cons t x xs in
    elim (cases_Bool (bytes_eq t x)) [
      | inl here ↦ let e = more x here in let d' = rw here at d in let f = ap (λ n. n * c) d' in omega arith
      | inr away ↦ let e = same x away in let d' = rw away at d in let f = ap (λ n. n * c) d' in omega arith
    ]

-- a term is in a list where its count isn't 0
pub any_count : (t : Term) (ts : List Term) → list_any (bytes_eq t) ts ≡ nat_lt 0 (count_of t ts)
any_count t [] = rw count_of-nil refl
any_count t (x ∷ xs) = let ih = any_count t xs in let d = count_of-cons t x xs in
    elim (cases_Bool (bytes_eq t x)) [
      | inl here ↦ rw (d, here) (sym (lt-ltb 0 (1 + count_of t xs) (omega arith)))
      | inr away ↦ rw (d, away) (ih ∙ ap (λ n. nat_lt 0 n) (omega arith))
    ]

-- the term is there already, or comes to the end
pub with_term_cases : (seen : List Term) (t : Term) → ((1 ≤ count_of t seen) × (with_term seen t ≡ seen)) ⊎ ((count_of t seen ≡ 0) × (with_term seen t ≡ seen ++ t ∷ []))
with_term_cases seen t = let a = any_count t seen in elim (cases_Bool (list_any (bytes_eq t) seen)) [
  | inl here ↦ let b : nat_lt 0 (count_of t seen) ≡ true = sym a ∙ here in inl (grind (arith, nat_tests), ap (λ (x : Bool). cond x seen (seen ++ t ∷ [])) here)
  | inr away ↦ let b : nat_lt 0 (count_of t seen) ≡ false = sym a ∙ away in inr (grind (arith, nat_tests), ap (λ (x : Bool). cond x seen (seen ++ t ∷ [])) away)
]

-- terms with the same bytes are the same
pub same_from_test : (t u : Term) → bytes_eq t u ≡ true → t ≡ u
same_from_test t u h = (bytes_eq-Decides t u).0 h

-- a term is among the distinct terms once, if it is there
pub once : (t : Term) (ts : List Term) → count_of t (distinct ts) ≡ min 1 (count_of t ts)
once t = by_push (λ ts. count_of t (distinct ts) ≡ min 1 (count_of t ts)) (rw (distinct-nil, count_of-nil) refl) more
  where
    more : (ts : List Term) (x : Term) → count_of t (distinct ts) ≡ min 1 (count_of t ts) → count_of t (distinct (ts ++ x ∷ [])) ≡ min 1 (count_of t (ts ++ x ∷ []))
    more ts x ih =
        let d = distinct_push ts x in
        let e = count_of_push t x ts in
        let f = count_of_push t x (distinct ts) in
        elim (cases_Bool (bytes_eq t x)) [
          | inl here ↦ let s : t ≡ x = same_from_test t x here in
              let e' = rw here at e in let f' = rw here at f in
              elim (with_term_cases (distinct ts) x) [
                | inl w ↦ let c : 1 ≤ count_of t (distinct ts) = rw s w.0 in rw (d, w.1) (omega arith)
                | inr w ↦ let c : count_of t (distinct ts) ≡ 0 = rw s w.0 in rw (d, w.1) (omega arith)
              ]
          | inr away ↦ let e' = rw away at e in let f' = rw away at f in
              elim (with_term_cases (distinct ts) x) [
                | inl w ↦ rw (d, w.1) (omega arith)
                | inr w ↦ rw (d, w.1) (omega arith)
              ]
        ]

test_sym : (t u : Term) → bytes_eq t u ≡ bytes_eq u t
test_sym t u = same_from_decides _ _ (bytes_eq-Decides t u) (Decides-like (bytes_eq u t) sym sym (bytes_eq-Decides u t))

-- the sum of s of the counts of all terms
abbrev pub total : (ℕ → ℕ) → List Term → ℕ
total s ts = sum_by (λ u. s (count_of u ts)) (distinct ts)

-- with one more token it grows by what s grows at the count of this token's term
pub total_push : (s step : ℕ → ℕ) → s 0 ≡ 0 → ((f : ℕ) → s (f + 1) ≡ s f + step f) → (ts : List Term) (t : Term) → total s (ts ++ t ∷ []) ≡ total s ts + step (count_of t ts)
total_push s step zero_none grows ts t =
    let g : Term → ℕ = λ u. s (count_of u ts) in
    let h : Term → ℕ = λ u. s (count_of u (ts ++ t ∷ [])) in
    let c = step (count_of t ts) in
    let same : (u : Term) → bytes_eq t u ≡ false → h u ≡ g u = λ u e. ap s (count_of_push u t ts ∙ omega (arith, ap one_if (test_sym u t ∙ e))) in
    let more : (u : Term) → bytes_eq t u ≡ true → h u ≡ g u + c = λ u e. let q = same_from_test t u e in
    ap s (count_of_push u t ts ∙ omega (arith, ap one_if (test_sym u t ∙ e))) ∙ grows (count_of u ts) ∙ ap (λ (x : Term). s (count_of u ts) + step (count_of x ts)) (sym q) in
    let all = sum_one_more g h t c same more (distinct ts) in
    let o = once t ts in
    let d = distinct_push ts t in
    elim (with_term_cases (distinct ts) t) [
      | inl w ↦ rw (d, w.1) (all ∙ ap (λ n. sum_by g (distinct ts) + n * c) (let one : count_of t (distinct ts) ≡ 1 = omega arith in one) ∙ omega arith)
      | inr w ↦ let none : count_of t ts ≡ 0 = omega arith in
          let old : g t ≡ 0 = ap s none ∙ zero_none in
          let new : h t ≡ g t + c = more t (same_term t) in
          let s0 : sum_by h (distinct ts) ≡ sum_by g (distinct ts) + 0 * c = all ∙ ap (λ n. sum_by g (distinct ts) + n * c) w.0 in
          rw (d, w.1) (sum_by_push h (distinct ts) t ∙ omega (arith, s0, old, new))
    ]

-- one more token begins a slice where its term's next slice begins
pub all_slices_push : (p : ℕ) → p < 4 → (ts : List Term) (t : Term) → all_slices p (ts ++ t ∷ []) ≡ all_slices p ts + one_if (begins_in p (count_of t ts))
unfolding all_slices
all_slices_push p low ts t = total_push (slices p) (λ f. one_if (begins_in p f)) (slices_none p) (λ f. slices_more p f low) ts t

-- each token is counted once
pub total_count : (ts : List Term) → total (λ f. f) ts ≡ length ts
total_count = by_push (λ ts. total (λ f. f) ts ≡ length ts) (rw distinct-nil refl)
    (λ ts t ih. total_push (λ f. f) (λ f. 1) refl (λ f. refl) ts t ∙ ap (λ n. n + 1) ih ∙ sym (length_push ts t))

begun-nil : (p : ℕ) → slices_begun p [] ≡ all_slices p []
unfolding begun_after all_slices distinct
begun-nil p = refl

-- the slices that are begun are those that the terms take
pub begun_is : (p : ℕ) → p < 4 → (ts : List Term) → slices_begun p ts ≡ all_slices p ts
begun_is p low = by_push (λ ts. slices_begun p ts ≡ all_slices p ts) (begun-nil p) (λ ts t ih. omega (arith, begun_push p ts t, all_slices_push p low ts t))
