-- How the cut of a history changes with one more document.
use Rattle.std.proofs.Common.{◌≡◌, ℕ, zero, suc, ◌+◌, ◌<◌, ◌≤◌, ◌⊎◌, true, false, List, [], ◌∷◌, ◌++◌, length, get_or, refl, ap, ◌∙◌, arith, append-nil, append_assoc, inl, inr}
use Rattle.std.proofs.lemmas.Bool.{cases_Bool}
use Rattle.std.proofs.lemmas.List.Sums.{fold_push}
use Rattle.eb_base.specs.Document.{Doc}
use Rattle.eb_base.specs.Setting.{Setting}
use Rattle.eb_place.specs.Room.{cut, with_doc, last_of, fits}

-- the segments with one more document
pub cut_push : (σ : Setting) (docs : List Doc) (d : Doc) → cut σ (docs ++ d ∷ []) ≡ with_doc σ (cut σ docs) d
unfolding cut
cut_push σ docs d = fold_push (with_doc σ) [] docs d

-- the document goes to the last segment, or begins one
pub record Goes (σ : Setting) (segs : List (List Doc)) (d : Doc) (new : List (List Doc)) : Type 0 where
  pub longer : length segs ≤ length new
  pub stays : (s : ℕ) → s + 1 < length segs → get_or new s [] ≡ get_or segs s []

-- one more document keeps all segments but the last
pub with_doc_keeps : (σ : Setting) (segs : List (List Doc)) (d : Doc) → Goes σ segs d (with_doc σ segs d)
with_doc_keeps σ [] d = record { longer = omega arith; stays = λ s h. absurd (omega arith) }
with_doc_keeps σ (x ∷ []) d = elim (cases_Bool (fits σ x d)) [
  | inl here ↦ rw here (record { longer = omega arith; stays = λ s h. absurd (omega arith) })
  | inr away ↦ rw away (record { longer = omega arith; stays = λ s h. absurd (omega arith) })
]
with_doc_keeps σ (x ∷ y ∷ ys) d = let r = with_doc_keeps σ (y ∷ ys) d in record { longer = omega (arith, r.longer); stays = stays r }
  where
    stays : Goes σ (y ∷ ys) d (with_doc σ (y ∷ ys) d) → (s : ℕ) → s + 1 < length (x ∷ y ∷ ys) → get_or (with_doc σ (x ∷ y ∷ ys) d) s [] ≡ get_or (x ∷ y ∷ ys) s []
    stays r zero h = refl
    stays r (suc s) h = r.stays s (omega arith)

last_cons : (x : List Doc) (segs : List (List Doc)) → 1 ≤ length segs → last_of (x ∷ segs) ≡ last_of segs
last_cons x [] h = absurd (omega arith)
last_cons x (y ∷ ys) h = refl

-- which of the two
pub with_doc_last : (σ : Setting) (x : List Doc) (segs : List (List Doc)) (d : Doc) →
    ((fits σ (last_of (x ∷ segs)) d ≡ true) × (length (with_doc σ (x ∷ segs) d) ≡ length (x ∷ segs)) × (last_of (with_doc σ (x ∷ segs) d) ≡ last_of (x ∷ segs) ++ d ∷ []))
    ⊎ ((fits σ (last_of (x ∷ segs)) d ≡ false) × (length (with_doc σ (x ∷ segs) d) ≡ length (x ∷ segs) + 1) × (last_of (with_doc σ (x ∷ segs) d) ≡ d ∷ []))
with_doc_last σ x [] d = elim (cases_Bool (fits σ x d)) [
  | inl here ↦ inl (here, rw here refl, rw here refl)
  | inr away ↦ inr (away, rw away refl, rw away refl)
]
with_doc_last σ x (y ∷ ys) d = elim (with_doc_last σ y ys d) [
  | inl w ↦ inl (w.0, ap suc w.1, last_cons x (with_doc σ (y ∷ ys) d) (omega (arith, w.1)) ∙ w.2)
  | inr w ↦ inr (w.0, omega (arith, w.1), last_cons x (with_doc σ (y ∷ ys) d) (omega (arith, w.1)) ∙ w.2)
]

-- a closed segment stays as it is
pub closed_stays : (σ : Setting) (xs ys : List Doc) (s : ℕ) → s + 1 < length (cut σ xs) → (length (cut σ xs) ≤ length (cut σ (xs ++ ys))) × (get_or (cut σ (xs ++ ys)) s [] ≡ get_or (cut σ xs) s [])
closed_stays σ xs [] s h = rw append-nil (omega arith, refl)
closed_stays σ xs (y ∷ ys) s h =
    let w = with_doc_keeps σ (cut σ xs) y in
    let p = cut_push σ xs y in
    let l = ap length p in
    let r = closed_stays σ (xs ++ y ∷ []) ys s (omega (arith, w.longer)) in
    let e : (xs ++ y ∷ []) ++ ys ≡ xs ++ (y ∷ ys) = append_assoc xs (y ∷ []) ys in
    let r' = rw e at r in
    (omega (arith, r'.0, w.longer), r'.1 ∙ ap (λ (z : List (List Doc)). get_or z s []) p ∙ w.stays s h)
