-- The accepted documents of a segment.
use Rattle.std.specs.Prelude.{◌≡◌, ℕ, ◌<◌, List, [], ◌++◌, get_or}
use Rattle.eb_base.specs.Document.{Doc}
use Rattle.eb_place.specs.declared.moment.Moment.{Moment}
use Rattle.eb_place.specs.Room.{cut}
use Rattle.eb_cursor.specs.Posted.{Narrow}

-- in order; the number of a document in its segment is its place in this list, counted from 0
abbrev pub accepted_in : Moment → ℕ → List Doc
accepted_in m s = get_or (cut m.setting m.documents.accepted) s []

-- these are the first accepted documents of the segment
pub record AreFirst (m : Moment) (s : ℕ) (docs : List Doc) : Type 0 where
  pub inside : s < m.setting.segments
  pub narrow : Narrow docs
  pub rest : List Doc
  pub are : accepted_in m s ≡ docs ++ rest
