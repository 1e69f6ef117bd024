-- Laws on where stores go, which the public functions of src/storing_laws.rt prove.
use Rattle.std.specs.Prelude.{◌≡◌, ◌↔◌, ℕ, ◌+◌, ◌*◌, ◌<◌, ◌≤◌, ◌==◌, ◌||◌, ◌⊎◌, Bool, true, not, List, [], ◌∷◌, ◌++◌, length, get_or, sum_by, Contains}
use Rattle.eb_base.specs.Term.{Term}
use Rattle.eb_base.specs.Document.{Doc}
use Rattle.eb_base.specs.Setting.{Setting, IsSetting}
use Rattle.eb_place.specs.declared.moment.Moment.{Moment}
use Rattle.eb_place.specs.Layout.{Region, rank, size, place}
use Rattle.eb_place.specs.Layout.Slot.{slot}
use Rattle.eb_place.specs.Layout.Region.{cell_region}
use Rattle.eb_place.specs.Postings.{terms_of, distinct, number_of}
use Rattle.eb_place.specs.Room.{cut, IsLawful}
use Rattle.eb_place.specs.Placing.{pairs_of, cells_of, placing}
use Rattle.eb_place.specs.Packed.{block, packed}
use Rattle.eb_place.specs.Conversion.{conversion}
use Rattle.eb_place.specs.Moments.{document_stores, IsMoment}
use Rattle.eb_place.specs.Seen.{segment, IsEntered}

-- the words of the converter: converted words, directory and packed words
abbrev pub is_converters : Region → Bool
is_converters r = (rank r == 1) || (rank r == 11) || (rank r == 12)

-- the place is that of a word of a segment, in a region that passes the test
pub record LiesIn (σ : Setting) (test : Region → Bool) (at : ℕ) : Type 0 where
  pub segment : ℕ
  pub region : Region
  pub index : ℕ
  pub inside : segment < σ.segments
  pub within : index < size σ region
  pub passes : test region ≡ true
  pub is : at ≡ place σ (slot segment region index)

-- each store of a placing goes to the count or to a word of a region, none of which is the
-- converter's
abbrev pub PlacingsLieInRegions : Type 0
PlacingsLieInRegions = (σ : Setting) (docs : List Doc) (d : Doc) (at v : ℕ) → IsSetting σ → IsLawful σ (docs ++ d ∷ [])
    → Contains (placing σ docs d) (at, v) → (at ≡ 0) ⊎ LiesIn σ (λ r. not (is_converters r)) at

-- and each store of a conversion to a word of a region of the converter
abbrev pub ConversionsLieInRegions : Type 0
ConversionsLieInRegions = (σ : Setting) (docs : List Doc) (s at v : ℕ) → IsSetting σ → IsLawful σ docs → s < length (cut σ docs) → Contains (conversion σ docs s) (at, v) → LiesIn σ is_converters at

-- the cell of a term of a segment
abbrev pub cell_in : Moment → ℕ → Term → ℕ
cell_in m s t = get_or (cells_of (2 * m.setting.terms) (distinct (terms_of (segment m s)))) (number_of t (terms_of (segment m s))) 0

-- a term is entered exactly where the store of its cell is done, of its number plus 1
abbrev pub EnteredWithTheCell : Type 0
EnteredWithTheCell = (m : Moment) (s : ℕ) (t : Term) → IsMoment m → s < m.setting.segments
    → IsEntered m s t ↔ Contains (pairs_of m.setting (document_stores m.setting m.documents)) (place m.setting (slot s cell_region (cell_in m s t)), number_of t (terms_of (segment m s)) + 1)

-- the packed words of a segment find room
abbrev pub PackingFits : Type 0
PackingFits = (σ : Setting) (docs : List Doc) (s : ℕ) → IsSetting σ → IsLawful σ docs → s < length (cut σ docs)
    → sum_by (λ t. length (packed t (get_or (cut σ docs) s []))) (distinct (terms_of (get_or (cut σ docs) s []))) ≤ 34 * σ.terms

-- a block has at most as many words as postings
abbrev pub BlocksAreShort : Type 0
BlocksAreShort = (xs : List ℕ) → 1 ≤ length xs → length (block xs) ≤ length xs
