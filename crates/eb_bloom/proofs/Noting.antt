-- The segment of a document that was added.
use Rattle.std.proofs.Common.{◌≤◌, List, [], ◌∷◌, ◌++◌, length, inl, inr, ap, arith}
use Rattle.std.proofs.lemmas.Bool.{cases_Bool}
use Rattle.eb_base.specs.Document.{Doc}
use Rattle.eb_base.specs.Setting.{Setting}
use Rattle.eb_place.specs.Room.{cut, with_doc, fits}
use Rattle.eb_place.proofs.CutSegments.{cut_push}

with_some : (σ : Setting) (segs : List (List Doc)) (d : Doc) → 1 ≤ length (with_doc σ segs d)
with_some σ [] d = omega arith
with_some σ (s ∷ []) d = elim (cases_Bool (fits σ s d)) [ inl e ↦ rw e (omega arith) | inr e ↦ rw e (omega arith) ]
with_some σ (s ∷ r ∷ rs) d = omega arith

-- some segment is begun
pub cut_some : (σ : Setting) (docs : List Doc) (d : Doc) → 1 ≤ length (cut σ (docs ++ d ∷ []))
cut_some σ docs d = omega (arith, with_some σ (cut σ docs) d, ap length (cut_push σ docs d))
