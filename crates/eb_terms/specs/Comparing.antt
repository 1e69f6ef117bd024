-- What a search reads of the terms that are entered.
use Rattle.std.specs.Prelude.{◌≡◌, ℕ, ◌+◌, ◌<◌, ◌==◌, false, List, [], length, get_or, take, min, sum_by, Option, Some, None}
use Rattle.std.specs.List.{common_prefix_len}
use Rattle.eb_base.specs.Term.{Term}
use Rattle.eb_place.specs.declared.moment.Moment.{Moment}
use Rattle.eb_place.specs.Room.{text_words}
use Rattle.eb_place.specs.Placing.{cells_of}
use Rattle.eb_place.specs.Seen.{entered}
use Rattle.eb_terms.specs.Finding.{cells_in, is_filled}

-- the term of this number
abbrev pub term_at : Moment → ℕ → ℕ → Term
term_at m s number = get_or (entered m s) number []

-- its cell
abbrev pub cell_of : Moment → ℕ → ℕ → ℕ
cell_of m s number = get_or (cells_of (cells_in m) (entered m s)) number 0

-- where its text begins, among the text words
abbrev pub text_start : Moment → ℕ → ℕ → ℕ
text_start m s number = sum_by text_words (take number (entered m s))

-- the term of this number is entered
abbrev pub IsNumber : Moment → ℕ → ℕ → Type 0
IsNumber m s number = number < length (entered m s)

-- what a cell says: that it is free, or the number of the term whose cell it is
abbrev pub CellHolds : Moment → ℕ → ℕ → Option ℕ → Type 0
CellHolds m s cell None = is_filled m s cell ≡ false
CellHolds m s cell (Some number) = IsNumber m s number × (cell_of m s number ≡ cell)

-- the text of the term of this number begins here
pub record IsText (m : Moment) (s k at : ℕ) : Type 0 where
  pub inside : s < m.setting.segments
  pub number : IsNumber m s k
  pub start : at ≡ text_start m s k

-- how many words are compared of the two lists, one after the other, up to the first that differs
abbrev pub words_compared : List ℕ → List ℕ → ℕ
words_compared xs ys = min (length ys) (common_prefix_len (λ x y. x == y) xs ys + 1)
