-- The rule of the book, and what its steps show.
use Rattle.std.specs.Prelude.{ℕ, ◌≡◌, ◌==◌, true, List, [], ◌∷◌, ◌++◌, length, MatchBool}
use Rattle.logbook.specs.Pages.{Cell, Step, View, Book, Named}
use Rattle.feed_shared.specs.declared.turn.Turn.{Turn}

-- the first word is the number of turns. A book has two words, of which this one leaves the second
-- at 0
pub record IsKept (cells : List Cell) (log : List Turn) : Type 0 where
  pub words : cells ≡ (length log, true) ∷ (0, true) ∷ []

abbrev pub head_of : Book → Named
head_of b = record { tracked = true; key = 0; book = b }

-- the turn was added to all that had been seen; or the log was longer, and was seen
abbrev pub Begins : Step Turn → View Turn ℕ → ℕ → View Turn ℕ → Type 0
Begins s v found w = MatchBool (found == s.old) (w.0 ≡ v.0 ++ s.ask ∷ []) (length w.0 ≡ found)
