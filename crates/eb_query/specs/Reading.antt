-- What a query line asks, or why it is refused.
use Rattle.eb_fields.specs.Dialect.{Dialect, plain}
use Rattle.std.specs.Prelude.{ℕ, ◌+◌, ◌<◌, ◌≤◌, List, [], ◌∷◌, ◌++◌, length, drop}
use Rattle.eb_base.specs.Query.{Tree, size, most_size}
use Rattle.eb_query.specs.Grammar.{Lexeme, GivesTree, Continues}
use Rattle.eb_query.specs.Nesting.{nesting, IsOpener, most_open}
use Rattle.eb_query.specs.Lexemes.{Placed, lexemes}
use Rattle.eb_query.specs.Head.{HasHead}
use Rattle.eb_query.specs.declared.ask.Ask.{Ask}

-- what comes of a query line: it asks this of a query, or it is refused
pub data Outcome : Type 0 where
  asks : Ask → Tree → Outcome
  bad_number : Outcome
  bad_query : (column : ℕ) → Outcome
  too_deep : Outcome
  too_many_nodes : Outcome

-- What comes of the query text of this line, which asks this of its query, read from left to right:
-- the lexemes before are taken, and those placed follow.
pub data IsOutcome (line : List ℕ) (a : Ask) : List Lexeme → List Placed → Outcome → Type 0 where
  -- the next lexeme may come there, below the deepest nesting if it opens, and the rest decides
  stands : {before : List Lexeme} {p : Placed} {ps : List Placed} {o : Outcome}
      → Continues (before ++ p.lexeme ∷ []) → (IsOpener p.lexeme → nesting before < most_open)
      → IsOutcome line a (before ++ p.lexeme ∷ []) ps o → IsOutcome line a before (p ∷ ps) o
  -- no query text begins so
  cannot_stand : {before : List Lexeme} {p : Placed} {ps : List Placed}
      → (Continues (before ++ p.lexeme ∷ []) → ⊥) → IsOutcome line a before (p ∷ ps) (bad_query p.column)
  -- the next lexeme may come there, and opens at the deepest nesting
  stands_too_deep : {before : List Lexeme} {p : Placed} {ps : List Placed}
      → Continues (before ++ p.lexeme ∷ []) → IsOpener p.lexeme → most_open ≤ nesting before
      → IsOutcome line a before (p ∷ ps) too_deep
  -- the line ends, and the text isn't a query
  incomplete : {before : List Lexeme}
      → ((t : Tree) → GivesTree before t → ⊥) → IsOutcome line a before [] (bad_query (length line + 1))
  -- the text is a query that is too large
  large : {before : List Lexeme} {t : Tree}
      → GivesTree before t → most_size < size t → IsOutcome line a before [] too_many_nodes
  -- the text is a query that is not too large
  complete : {before : List Lexeme} {t : Tree}
      → GivesTree before t → size t ≤ most_size → IsOutcome line a before [] (asks a t)

-- The line, which begins as a query line does, reads as this outcome, by the dialect.
pub data ReadsWith (how : Dialect) (line : List ℕ) : Outcome → Type 0 where
  -- it has no head
  without_number : ((a : Ask) (n : ℕ) → HasHead how line a n → ⊥) → ReadsWith how line bad_number
  -- it has one, and the query text after it decides
  with_number : {a : Ask} (n : ℕ) {o : Outcome} → HasHead how line a n → IsOutcome line a [] (lexemes how 0 (n + 1) (drop n line)) o → ReadsWith how line o

-- and so where no option says otherwise
abbrev pub ReadsAs : List ℕ → Outcome → Type 0
ReadsAs = ReadsWith plain
