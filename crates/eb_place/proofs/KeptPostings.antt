-- A posting's word keeps its value while further tokens of the segment are placed.
use Rattle.std.proofs.Common.{ℕ, ◌<◌, ◌≤◌, List, [], ◌∷◌, ◌++◌, length, ap, sym, ◌∙◌, subst, arith, inl, inr, append_assoc, append-nil, sum_by}
use Rattle.std.proofs.lemmas.List.{length_push}
use Rattle.std.proofs.lemmas.List.Sums.{sum_by_push}
use Rattle.eb_base.specs.Term.{Term}
use Rattle.eb_base.specs.Setting.{Setting}
use Rattle.eb_place.specs.Layout.{pool_slices}
use Rattle.eb_place.specs.Postings.{distinct}
use Rattle.eb_place.specs.Room.{text_words}
use Rattle.eb_place.specs.Address.{slices_begun}
use Rattle.eb_place.proofs.TermCounts.{distinct_push, with_term_cases, begun_push}
use Rattle.eb_place.proofs.StoresWithinTable.{SegmentFits}

-- what fits with one more token fits without it
pub fits_before : (σ : Setting) (ts : List Term) (u : Term) → SegmentFits σ (ts ++ u ∷ []) → SegmentFits σ ts
fits_before σ ts u fit = let d = distinct_push ts u in let few = fit.few in let texts = fit.texts in
    let slices' : (p : ℕ) → p < 4 → slices_begun p ts ≤ pool_slices σ p = λ p h. let l = fit.slices p h in let b = begun_push p ts u in omega arith in
    elim (with_term_cases (distinct ts) u) [
      | inl w ↦ let e = d ∙ w.1 in let l = ap length e in let t = ap (sum_by text_words) e in record { few = omega arith; texts = omega arith; slices = slices' }
      | inr w ↦ let e = d ∙ w.1 in let l = ap length e in let t = ap (sum_by text_words) e in
          record { few = omega (arith, length_push (distinct ts) u); texts = omega (arith, sum_by_push text_words (distinct ts) u); slices = slices' }
    ]

-- prefix of a list of tokens
pub fits_front : (σ : Setting) (ts us : List Term) → SegmentFits σ (ts ++ us) → SegmentFits σ ts
fits_front σ ts [] fit = subst (SegmentFits σ) (append-nil ts) fit
fits_front σ ts (u ∷ us) fit = fits_before σ ts u (fits_front σ (ts ++ u ∷ []) us (subst (SegmentFits σ) (sym (append_assoc ts (u ∷ []) us)) fit))
