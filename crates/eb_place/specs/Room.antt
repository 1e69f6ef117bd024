-- Which documents fit a segment, how a history is cut into segments, and where there is room.
use Rattle.std.specs.Prelude.{◌≡◌, ℕ, zero, suc, ◌+◌, ◌-◌, ◌*◌, ◌/◌, Bool, ◌&&◌, ◌||◌, List, [], ◌∷◌, ◌++◌, length, take, fold, sum_by, All, if◌then◌else◌, nat_lt, nat_le, IsTrue, slice_get, Some}
use Rattle.eb_base.specs.Term.{Term}
use Rattle.eb_base.specs.Document.{Doc, IsDocument}
use Rattle.eb_base.specs.Setting.{Setting}
use Rattle.eb_place.specs.Layout.{pool_slices}
use Rattle.eb_place.specs.Postings.{terms_of, distinct, count_of}

-- the text words of a term: its length, and its bytes by eights
abbrev pub text_words : Term → ℕ
text_words t = 1 + (length t + 7) / 8

-- the slices of a pool that a term with f postings takes
abbrev pub slices : ℕ → ℕ → ℕ
slices zero f = if nat_le 1 f then 1 else 0
slices (suc zero) f = if nat_lt 2 f then 1 else 0
slices (suc (suc zero)) f = if nat_lt 17 f then 1 else 0
slices (suc (suc (suc p))) f = (f - 144 + 2046) / 2047

-- the slices of a pool that the terms take together, each as often as it occurs here
unfoldable pub all_slices : ℕ → List Term → ℕ
all_slices p ts = sum_by (λ t. slices p (count_of t ts)) (distinct ts)

-- whether a segment has room for these documents: for their number, for their distinct terms, for
-- their text words, and in each pool for their slices
unfoldable pub holds : Setting → List Doc → Bool
holds σ seg = nat_le (length seg) σ.docs && nat_le (length (distinct (terms_of seg))) σ.terms && nat_le (sum_by text_words (distinct (terms_of seg))) (4 * σ.terms)
    && nat_le (all_slices 0 (terms_of seg)) (pool_slices σ 0) && nat_le (all_slices 1 (terms_of seg)) (pool_slices σ 1)
    && nat_le (all_slices 2 (terms_of seg)) (pool_slices σ 2) && nat_le (all_slices 3 (terms_of seg)) (pool_slices σ 3)

-- whether a document fits after those of a segment
abbrev pub fits : Setting → List Doc → Doc → Bool
fits σ seg d = holds σ (seg ++ d ∷ [])

-- the document fits after those of the segment
abbrev pub Fits : Setting → List Doc → Doc → Type 0
Fits σ seg d = IsTrue (fits σ seg d)

-- the segments with one more document: in the last of them where it fits, else in a new one
abbrev pub with_doc : Setting → List (List Doc) → Doc → List (List Doc)
with_doc σ [] d = (d ∷ []) ∷ []
with_doc σ (s ∷ []) d = if fits σ s d then ((s ++ d ∷ []) ∷ []) else (s ∷ (d ∷ []) ∷ [])
with_doc σ (s ∷ r ∷ rs) d = s ∷ with_doc σ (r ∷ rs) d

-- the history cut into segments, each document in the last one while it fits
unfoldable pub cut : Setting → List Doc → List (List Doc)
cut σ docs = fold (with_doc σ) [] docs

-- the last segment, none where there is none
abbrev pub last_of : List (List Doc) → List Doc
last_of [] = []
last_of (s ∷ []) = s
last_of (s ∷ r ∷ rs) = last_of (r ∷ rs)

-- whether the index takes the document: one more segment can be begun, or the document fits the
-- last one
unfoldable pub has_room : Setting → List Doc → Doc → Bool
has_room σ docs d = nat_lt (length (cut σ docs)) σ.segments || fits σ (last_of (cut σ docs)) d

-- the index takes the document after this history
abbrev pub HasRoom : Setting → List Doc → Doc → Type 0
HasRoom σ docs d = IsTrue (has_room σ docs d)

-- a history that an index can have: each document can be made, and had room after those before it
pub record IsLawful (σ : Setting) (docs : List Doc) : Type 0 where
  pub documents : All IsDocument docs
  pub rooms : (k : ℕ) (d : Doc) → slice_get docs k ≡ Some d → HasRoom σ (take k docs) d
