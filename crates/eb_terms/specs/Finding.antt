-- What a lookup in a segment's dictionary answers, and how many loads it may make.
use Rattle.std.specs.Prelude.{◌≡◌, ℕ, ◌+◌, ◌*◌, ◌%◌, Bool, nat_lt, Option, Some, None}
use Rattle.std.specs.List.{prefix_len, range_with_len}
use Rattle.eb_base.specs.Term.{Term}
use Rattle.eb_place.specs.declared.moment.Moment.{Moment}
use Rattle.eb_place.specs.Layout.{place}
use Rattle.eb_place.specs.Layout.Slot.{slot}
use Rattle.eb_place.specs.Layout.Region.{cell_region}
use Rattle.eb_place.specs.Postings.{number_of, terms_of}
use Rattle.eb_place.specs.Room.{text_words}
use Rattle.eb_place.specs.Placing.{home_cell}
use Rattle.eb_place.specs.Moments.{word}
use Rattle.eb_place.specs.Seen.{segment, IsEntered}

-- the term is entered in the segment, and this is its number there
pub record HasNumber (m : Moment) (s : ℕ) (t : Term) (k : ℕ) : Type 0 where
  pub entered : IsEntered m s t
  pub number : k ≡ number_of t (terms_of (segment m s))

-- what a lookup that begins at moment m and ends at moment n may answer: the term's number at n, or
-- none where the term isn't entered at m
abbrev pub IsAnswer : Moment → Moment → ℕ → Term → Option ℕ → Type 0
IsAnswer m n s t None = IsEntered m s t → ⊥
IsAnswer m n s t (Some number) = HasNumber n s t number

-- how many cells the dictionary of a segment has
abbrev pub cells_in : Moment → ℕ
cells_in m = 2 * m.setting.terms

-- whether a cell is filled: its word isn't 0
abbrev pub is_filled : Moment → ℕ → ℕ → Bool
is_filled m s c = nat_lt 0 (word m (place m.setting (slot s cell_region c)))

-- whether the term's home cell is filled
abbrev pub is_home_filled : Moment → ℕ → Term → Bool
is_home_filled m s t = is_filled m s (home_cell (cells_in m) t)

-- the filled cells that follow each other from the term's home cell on, wrapping
unfoldable pub filled_run : Moment → ℕ → Term → ℕ
filled_run m s t = prefix_len (λ k. is_filled m s ((home_cell (cells_in m) t + k) % cells_in m)) (range_with_len 0 (cells_in m))

-- the most loads of a lookup: three and the text words of the term, for each cell of the run and
-- the one after it
abbrev pub most_finding_loads : Moment → ℕ → Term → ℕ
most_finding_loads m s t = (filled_run m s t + 1) * (3 + text_words t)
