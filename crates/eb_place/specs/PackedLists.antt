-- The packed list of a term of a converted segment: what it holds, and where it is.
use Rattle.std.specs.Prelude.{ℕ, ◌<◌, List, length, reverse, sum_by, take}
use Rattle.eb_base.specs.Term.{Term}
use Rattle.eb_base.specs.Document.{Doc}
use Rattle.eb_place.specs.declared.moment.Moment.{Moment}
use Rattle.eb_place.specs.Postings.{terms_of, distinct, postings}
use Rattle.eb_place.specs.Packed.{packed}
use Rattle.eb_place.specs.Seen.{segment}

-- the segment is converted at the moment
abbrev pub IsConverted : Moment → ℕ → Type 0
IsConverted m s = s < m.conversions.converted

-- how many packed words come before those of term number k of a segment
unfoldable pub list_start : List Doc → ℕ → ℕ
list_start seg k = sum_by (λ t. length (packed t seg)) (take k (distinct (terms_of seg)))

-- all postings of a term in a segment, newest first
abbrev pub newest_first : Moment → ℕ → Term → List ℕ
newest_first m s t = reverse (postings t (segment m s))

-- the packed words of a term in a segment
abbrev pub packed_words : Moment → ℕ → Term → List ℕ
packed_words m s t = packed t (segment m s)
