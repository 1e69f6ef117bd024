-- The postings of a segment are at most what its slices hold, and so at most the packed words.
use Rattle.std.proofs.Common.{◌≡◌, ℕ, ◌+◌, ◌*◌, ◌≤◌, List, [], ◌∷◌, length, ap, sym, ◌∙◌, arith, sum_by, inl, inr, bytes_eq, filter, lit<}
use Rattle.std.proofs.lemmas.List.{length-append, length-map}
use Rattle.std.proofs.lemmas.List.Sums.{sum_by-cons}
use Rattle.std.proofs.lemmas.List.Elements.{filter-append}
use Rattle.std.proofs.lemmas.Bool.{cases_Bool}
use Rattle.std.proofs.lemmas.Bool.Decides.{nat_tests}
use Rattle.eb_base.specs.Term.{Term}
use Rattle.eb_base.specs.Document.{Doc}
use Rattle.eb_base.specs.Setting.{Setting}
use Rattle.eb_place.specs.Postings.{Token, count_of, distinct, tokens_from, segment_from, tokens, postings, terms_of}
use Rattle.eb_place.specs.Room.{slices, all_slices}
use Rattle.eb_place.proofs.TermCounts.{total_count, begun_is, count_of-nil, count_of-cons, count_of-append}
use Rattle.eb_place.proofs.StoresWithinTable.{SegmentFits}

slices_hold : (f : ℕ) → f ≤ 2 * slices 0 f + 15 * slices 1 f + 127 * slices 2 f + 2047 * slices 3 f
slices_hold f = grind (arith, nat_tests)

sums_hold : (n a b c d : Term → ℕ) → ((u : Term) → n u ≤ 2 * a u + 15 * b u + 127 * c u + 2047 * d u)
    → (xs : List Term) → sum_by n xs ≤ 2 * sum_by a xs + 15 * sum_by b xs + 127 * sum_by c xs + 2047 * sum_by d xs
sums_hold n a b c d h [] = omega arith
sums_hold n a b c d h (x ∷ xs) = omega (arith, sums_hold n a b c d h xs, sum_by-cons n x xs, sum_by-cons a x xs, sum_by-cons b x xs, sum_by-cons c x xs, sum_by-cons d x xs, h x)

-- the postings of a segment are at most what its slices hold
pub postings_hold : (ts : List Term) → length ts ≤ 2 * all_slices 0 ts + 15 * all_slices 1 ts + 127 * all_slices 2 ts + 2047 * all_slices 3 ts
unfolding all_slices
postings_hold ts = omega (
  arith,
  total_count ts,
  sums_hold (λ u. count_of u ts) (λ u. slices 0 (count_of u ts)) (λ u. slices 1 (count_of u ts))
      (λ u. slices 2 (count_of u ts)) (λ u. slices 3 (count_of u ts)) (λ u. slices_hold (count_of u ts)) (distinct ts),
)

-- and so at most 34 a term that it has room for
pub postings_few : (σ : Setting) (ts : List Term) → SegmentFits σ ts → length ts ≤ 34 * σ.terms
postings_few σ ts fit =
    let a = fit.slices 0 (lit< tt) in let b = fit.slices 1 (lit< tt) in let c = fit.slices 2 (lit< tt) in let d = fit.slices 3 (lit< tt) in
    let a' = begun_is 0 (lit< tt) ts in let b' = begun_is 1 (lit< tt) ts in let c' = begun_is 2 (lit< tt) ts in let d' = begun_is 3 (lit< tt) ts in
    omega (arith, postings_hold ts)

-- a term has as many postings as tokens
matching_from : (t : Term) (n p : ℕ) (ts : List Term) → length (filter (λ w. bytes_eq t w.term) (tokens_from n p ts)) ≡ count_of t ts
matching_from t n p [] = sym (count_of-nil t)
matching_from t n p (u ∷ us) = let d = count_of-cons t u us in let ih = matching_from t n (p + 1) us in elim (cases_Bool (bytes_eq t u)) [
  | inl here ↦ rw (d, here) (omega (arith, ih))
  | inr away ↦ rw (d, away) (omega (arith, ih))
]

matching : (t : Term) (n : ℕ) (seg : List Doc) → length (filter (λ w. bytes_eq t w.term) (segment_from n seg)) ≡ count_of t (terms_of seg)
unfolding terms_of
matching t n [] = sym (count_of-nil t)
matching t n (d ∷ ds) = ap length (filter-append (λ (w : Token). bytes_eq t w.term) (tokens_from n 0 d.terms) (segment_from (n + 1) ds)) ∙
    omega (
      arith,
      length-append (filter (λ (w : Token). bytes_eq t w.term) (tokens_from n 0 d.terms)) (filter (λ (w : Token). bytes_eq t w.term) (segment_from (n + 1) ds)),
      matching_from t n 0 d.terms,
      matching t (n + 1) ds,
      count_of-append t d.terms (terms_of ds),
    )

-- a term has as many postings as it occurs in the segment
pub length-postings : (t : Term) (seg : List Doc) → length (postings t seg) ≡ count_of t (terms_of seg)
unfolding postings tokens
length-postings t seg = length-map (filter (λ (w : Token). bytes_eq t w.term) (segment_from 0 seg)) (λ (w : Token). w.posting) ∙ matching t 0 seg
