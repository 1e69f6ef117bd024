-- What a watch line asks, or why it is refused.
use Rattle.eb_fields.specs.Dialect.{Dialect, plain}
use Rattle.std.specs.Prelude.{◌≡◌, ℕ, List, [], Option, Some, None}
use Rattle.eb_base.specs.Query.{Tree}
use Rattle.eb_query.specs.Number.{number_in_line, HasWatchNumber, lexemes_of_line}
use Rattle.eb_query.specs.declared.ask.Ask.TheVariants.{Newest}
use Rattle.eb_query.specs.Reading.{Outcome, asks, bad_number, IsOutcome}

-- what comes of a watch line: the watch of this number is removed, or else an outcome as of a query
-- line, where `asks (Newest n) t` says that the watch n is set to the query t
pub data WatchOutcome : Type 0 where
  removes : (number : ℕ) → WatchOutcome
  reads : Outcome → WatchOutcome

-- The line, which begins with an exclamation mark, reads as this outcome, by the dialect.
pub data ReadsWatchWith (how : Dialect) (line : List ℕ) : WatchOutcome → Type 0 where
  -- it has no number
  without_number : (HasWatchNumber line → ⊥) → ReadsWatchWith how line (reads bad_number)
  -- it has one, and nothing but blanks after it
  alone : HasWatchNumber line → lexemes_of_line how line ≡ [] → ReadsWatchWith how line (removes (number_in_line line))
  -- it has one, and the query text after it decides
  with_text : {o : Outcome} → HasWatchNumber line → (lexemes_of_line how line ≡ [] → ⊥)
      → IsOutcome line (Newest (number_in_line line)) [] (lexemes_of_line how line) o → ReadsWatchWith how line (reads o)

-- and so where no option says otherwise
abbrev pub ReadsWatchAs : List ℕ → WatchOutcome → Type 0
ReadsWatchAs = ReadsWatchWith plain

-- the outcome of a watch line by its number, and by its query if it has one
abbrev pub watch_asked : ℕ → Option Tree → WatchOutcome
watch_asked number None = removes number
watch_asked number (Some t) = reads (asks (Newest number) t)
