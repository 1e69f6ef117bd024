-- The segments of a history, one after the other.
use Rattle.std.proofs.Common.{◌≡◌, ℕ, zero, suc, ◌+◌, ◌<◌, ◌≤◌, inl, inr, List, [], ◌∷◌, ◌++◌, length, take, drop, get_or, sum_by, refl, ap, sym, ◌∙◌, arith, append-nil, append_assoc}
use Rattle.std.proofs.lemmas.Bool.{cases_Bool}
use Rattle.std.proofs.lemmas.List.{take_all}
use Rattle.std.proofs.lemmas.List.Sums.{sum_by-cons, sum_by-take-le}
use Rattle.std.proofs.Math.Seq.{drop-append_seam, drop-append-add}
use Rattle.eb_base.specs.Document.{Doc}
use Rattle.eb_base.specs.Setting.{Setting}
use Rattle.eb_place.specs.Room.{cut, with_doc, fits}
use Rattle.eb_place.proofs.TermCounts.{by_push}
use Rattle.eb_place.proofs.CutSegments.{cut_push}
use Rattle.eb_place.proofs.FirstDocumentWords.{cut_sum, cut_nonempty}
use Rattle.eb_search.specs.Visible.{documents_before}

-- the documents of all segments
abbrev pub flat : List (List Doc) → List Doc
flat [] = []
flat (x ∷ xs) = x ++ flat xs

flat_with : (σ : Setting) (segs : List (List Doc)) (d : Doc) → flat (with_doc σ segs d) ≡ flat segs ++ d ∷ []
flat_with σ [] d = refl
flat_with σ (x ∷ []) d = elim (cases_Bool (fits σ x d)) [
  | inl here ↦ rw here (append-nil (x ++ d ∷ []) ∙ ap (λ (z : List Doc). z ++ d ∷ []) (sym (append-nil x)))
  | inr away ↦ rw away (ap (λ (z : List Doc). z ++ d ∷ []) (sym (append-nil x)))
]
flat_with σ (x ∷ y ∷ ys) d = ap (λ (z : List Doc). x ++ z) (flat_with σ (y ∷ ys) d) ∙ sym (append_assoc x (flat (y ∷ ys)) (d ∷ []))

-- they are the history
pub flat_cut : (σ : Setting) (docs : List Doc) → flat (cut σ docs) ≡ docs
unfolding cut
flat_cut σ = by_push (λ docs. flat (cut σ docs) ≡ docs) refl (λ docs d h. ap flat (cut_push σ docs d) ∙ flat_with σ (cut σ docs) d ∙ ap (λ (z : List Doc). z ++ d ∷ []) h)

before_cons : (x : List Doc) (xs : List (List Doc)) (s : ℕ) → documents_before (x ∷ xs) (suc s + 1) ≡ length x + documents_before xs (s + 1)
before_cons x xs s =
    let q : suc s + 1 ≡ suc (s + 1) = omega arith in
    ap (documents_before (x ∷ xs)) q ∙ sum_by-cons {X = List Doc} length x (take (s + 1) xs)

-- from a segment on: it, and what is after it
drop_flat : (segs : List (List Doc)) (s : ℕ) → s < length segs → drop (documents_before segs s) (flat segs) ≡ get_or segs s [] ++ drop (documents_before segs (s + 1)) (flat segs)
drop_flat [] s h = absurd (omega arith)
drop_flat (x ∷ xs) zero h =
    let e : documents_before (x ∷ xs) 1 ≡ length x = omega (arith, sum_by-cons {X = List Doc} length x []) in
    ap (λ (z : List Doc). x ++ z) (sym (ap (λ n. drop n (x ++ flat xs)) e ∙ drop-append_seam x (flat xs)))
drop_flat (x ∷ xs) (suc s) h =
    let a : documents_before (x ∷ xs) (suc s) ≡ length x + documents_before xs s = sum_by-cons {X = List Doc} length x (take s xs) in
    let b : documents_before (x ∷ xs) (suc s + 1) ≡ length x + documents_before xs (s + 1) = before_cons x xs s in
    ap (λ n. drop n (x ++ flat xs)) a ∙ drop-append-add x (flat xs) (documents_before xs s) ∙ drop_flat xs s (omega arith)
    ∙ ap (λ (z : List Doc). get_or xs s [] ++ z) (sym (ap (λ n. drop n (x ++ flat xs)) b ∙ drop-append-add x (flat xs) (documents_before xs (s + 1))))

pub drop_segment : (σ : Setting) (docs : List Doc) (s : ℕ) → s < length (cut σ docs)
    → drop (documents_before (cut σ docs) s) docs ≡ get_or (cut σ docs) s [] ++ drop (documents_before (cut σ docs) (s + 1)) docs
drop_segment σ docs s h =
    let e = flat_cut σ docs in
    ap (drop (documents_before (cut σ docs) s)) (sym e) ∙ drop_flat (cut σ docs) s h ∙ ap (λ (z : List Doc). get_or (cut σ docs) s [] ++ drop (documents_before (cut σ docs) (s + 1)) z) e

-- how many come before the next segment
before_next : (segs : List (List Doc)) (s : ℕ) → s < length segs → documents_before segs (s + 1) ≡ documents_before segs s + length (get_or segs s [])
before_next [] s h = absurd (omega arith)
before_next (x ∷ xs) zero h = omega (arith, sum_by-cons {X = List Doc} length x [])
before_next (x ∷ xs) (suc s) h = omega (arith, before_next xs s (omega arith), sum_by-cons {X = List Doc} length x (take s xs), before_cons x xs s)

-- what is known of a segment of these documents
pub record IsPart (σ : Setting) (docs : List Doc) (s : ℕ) : Type 0 where
  pub next : documents_before (cut σ docs) (s + 1) ≡ documents_before (cut σ docs) s + length (get_or (cut σ docs) s [])
  pub some : 1 ≤ length (get_or (cut σ docs) s [])
  pub within : documents_before (cut σ docs) (s + 1) ≤ length docs

pub is_part : (σ : Setting) (docs : List Doc) (s : ℕ) → s < length (cut σ docs) → IsPart σ docs s
is_part σ docs s h = record {
  next = before_next (cut σ docs) s h;
  some = cut_nonempty σ docs s h;
  within = omega (arith, sum_by-take-le {X = List Doc} length (cut σ docs) (s + 1), cut_sum σ docs);
}

-- all come before the end
pub before_end : (σ : Setting) (docs : List Doc) → documents_before (cut σ docs) (length (cut σ docs)) ≡ length docs
before_end σ docs = ap (sum_by length) (take_all (length (cut σ docs)) (cut σ docs) (omega arith)) ∙ cut_sum σ docs
