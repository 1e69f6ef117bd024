-- Each document within the limits fits an empty segment.
use Rattle.std.proofs.Common.{◌≡◌, ℕ, ◌+◌, ◌*◌, ◌^◌, ◌≤◌, true, List, [], ◌∷◌, length, ap, append-nil, arith, sum_by, inl, inr, lit<}
use Rattle.std.proofs.lemmas.List.Sums.{sum_by-cons, sum_by_push}
use Rattle.std.proofs.lemmas.List.{length_push}
use Rattle.std.proofs.lemmas.Bool.{le-leb, and_from}
use Rattle.std.proofs.lemmas.Bool.Decides.{nat_tests}
use Rattle.std.proofs.Math.Nat.{pow-le-pow_right}
use Rattle.eb_base.specs.Term.{Term}
use Rattle.eb_base.specs.Document.{Doc, IsDocument}
use Rattle.eb_base.specs.Setting.{Setting, IsSetting, least_power}
use Rattle.eb_place.specs.Postings.{count_of, distinct, terms_of}
use Rattle.eb_place.specs.Room.{slices, all_slices, text_words, holds, fits}
use Rattle.eb_place.proofs.TermCounts.{by_push, distinct_push, distinct-nil, with_term_cases, total_count}

-- a sum over the distinct terms is at most that over all
pub sum_distinct : (f : Term → ℕ) (ts : List Term) → sum_by f (distinct ts) ≤ sum_by f ts
sum_distinct f = by_push (λ ts. sum_by f (distinct ts) ≤ sum_by f ts) (rw distinct-nil (omega arith))
    (λ ts t ih. let d = distinct_push ts t in let a = sum_by_push f ts t in let b = sum_by_push f (distinct ts) t in elim (with_term_cases (distinct ts) t) [
      | inl w ↦ rw (d, w.1) (omega arith)
      | inr w ↦ rw (d, w.1) (omega arith)
    ])

-- there are no more distinct terms than tokens
pub length_distinct : (ts : List Term) → length (distinct ts) ≤ length ts
length_distinct = by_push (λ ts. length (distinct ts) ≤ length ts) (rw distinct-nil (omega arith))
    (λ ts t ih. let d = distinct_push ts t in let a = length_push ts t in let b = length_push (distinct ts) t in elim (with_term_cases (distinct ts) t) [
      | inl w ↦ rw (d, w.1) (omega arith)
      | inr w ↦ rw (d, w.1) (omega arith)
    ])

-- a sum of terms that are at most b, k times each
scaled : (f g : Term → ℕ) (k b : ℕ) → ((u : Term) → k * f u ≤ g u + b) → (xs : List Term) → k * sum_by f xs ≤ sum_by g xs + b * length xs
scaled f g k b h [] = omega arith
scaled f g k b h (x ∷ xs) = omega (arith, scaled f g k b h xs, ap (λ n. k * n) (sum_by-cons f x xs), sum_by-cons g x xs, h x)

slices_cost_0 : (f : ℕ) → 1 * slices 0 f ≤ f + 0
slices_cost_0 f = grind (arith, nat_tests)

slices_cost_1 : (f : ℕ) → 3 * slices 1 f ≤ f + 0
slices_cost_1 f = grind (arith, nat_tests)

slices_cost_2 : (f : ℕ) → 18 * slices 2 f ≤ f + 0
slices_cost_2 f = grind (arith, nat_tests)

slices_cost_3 : (f : ℕ) → 145 * slices 3 f ≤ f + 0
slices_cost_3 f = omega arith

-- each slice is for some tokens
pub all_slices_cost : (p k : ℕ) → ((f : ℕ) → k * slices p f ≤ f + 0) → (ts : List Term) → k * all_slices p ts ≤ length ts
unfolding all_slices
all_slices_cost p k h ts = omega (arith, scaled (λ u. slices p (count_of u ts)) (λ u. count_of u ts) k 0 (λ u. h (count_of u ts)) (distinct ts), total_count ts)

-- the text words
pub text_cost : (ts : List Term) → 8 * sum_by text_words (distinct ts) ≤ sum_by length ts + 15 * length ts
text_cost ts = omega (arith, scaled text_words length 8 15 (λ u. omega arith) (distinct ts), sum_distinct length ts, length_distinct ts)

terms_of_one : (d : Doc) → terms_of (d ∷ []) ≡ d.terms
unfolding terms_of
terms_of_one d = append-nil d.terms

-- a document within the limits fits a segment without documents
pub fits_empty : (σ : Setting) → IsSetting σ → (d : Doc) → IsDocument d → fits σ [] d ≡ true
unfolding holds
fits_empty σ s d h =
    let k = s.terms.0 in
    let least : 2 ^ least_power ≤ 2 ^ k = pow-le-pow_right (lit< tt) s.terms.1 in
    let t : 2 ^ least_power ≤ σ.terms = omega (arith, least, s.terms.3) in
    let ts = d.terms in
    let a = length_distinct ts in
    let b = text_cost ts in
    let few = h.limits.tokens in
    let short = h.limits.bytes in
    let c0 = all_slices_cost 0 1 slices_cost_0 ts in
    let c1 = all_slices_cost 1 3 slices_cost_1 ts in
    let c2 = all_slices_cost 2 18 slices_cost_2 ts in
    let c3 = all_slices_cost 3 145 slices_cost_3 ts in
    let one : 1 ≤ σ.docs = s.docs.0 in
    rw terms_of_one (and_from _ _ (and_from _ _ (and_from _ _ (and_from _ _ (and_from _ _ (and_from _ _
    (le-leb _ _ one) (le-leb _ _ (omega arith))) (le-leb _ _ (omega arith))) (le-leb _ _ (omega arith))) (le-leb _ _ (omega arith))) (le-leb _ _ (omega arith))) (le-leb _ _ (omega arith)))
