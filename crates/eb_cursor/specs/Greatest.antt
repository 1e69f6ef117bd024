-- The greatest match among the documents of a segment.
use Rattle.std.specs.Prelude.{◌≡◌, ℕ, ◌<◌, ◌≤◌, Bool, IsTrue, true, false, List, get_or, slice_get, Option, Some, None}
use mathlib.Core.List.{IsPrefix}
use Rattle.eb_base.specs.Document.{Doc}
use Rattle.eb_base.specs.Query.{Tree}
use Rattle.eb_base.specs.Match.{Matches}
use Rattle.eb_base.specs.Term.{Term}
use Rattle.eb_place.specs.declared.moment.Moment.{Moment}
use Rattle.eb_terms.specs.Finding.{is_home_filled}
use Rattle.eb_cursor.specs.Accepted.{accepted_in}

-- the document with this number is there, and the query matches it
abbrev pub MatchesAt : Tree → List Doc → ℕ → Type 0
MatchesAt q docs n = (d : Doc) × (slice_get docs n ≡ Some d) × Matches q d

-- a document with this number matches, and none matches that is above it and at most `most`
pub record IsGreatest (q : Tree) (docs : List Doc) (most n : ℕ) : Type 0 where
  pub within : n ≤ most
  pub matches : MatchesAt q docs n
  pub greatest : (k : ℕ) → n < k → k ≤ most → MatchesAt q docs k → ⊥

-- the greatest number that is at most `most` and whose document matches, none exactly where there
-- is none
abbrev pub IsGreatestMatch : Tree → List Doc → ℕ → Option ℕ → Type 0
IsGreatestMatch q docs most None = (k : ℕ) → k ≤ most → MatchesAt q docs k → ⊥
IsGreatestMatch q docs most (Some n) = IsGreatest q docs most n

-- none of the documents that a segment of the moment has matches, where the list says false of the
-- segment
abbrev pub AreLikely : Moment → Tree → List Bool → Type 0
AreLikely m q likely = (s : ℕ) (docs : List Doc) (n : ℕ) → get_or likely s true ≡ false → IsPrefix docs (accepted_in m s) → MatchesAt q docs n → ⊥

-- the term's home cell is filled in each of the first `begun` segments of which the list says true
abbrev pub AreFilled : Moment → Term → ℕ → List Bool → Type 0
AreFilled m t begun likely = (s : ℕ) → s < begun → get_or likely s true ≡ true → IsTrue (is_home_filled m s t)
