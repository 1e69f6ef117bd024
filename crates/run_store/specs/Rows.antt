-- What the queries of one round see, after lines that were processed before.
use Rattle.std.specs.Prelude.{◌≡◌, ℕ, ◌-◌, ◌≤◌, true, false, List, [], ◌∷◌, length, nat_lt, if◌then◌else◌}
use Rattle.std.specs.List.{AllByRecursion}
use Rattle.eb_lines.specs.Reading.{Reading}
use Rattle.eb_lines.specs.Progress.{accepted}
use Rattle.run_store.specs.Sees.{is_document_line, is_query_line, IsAsked}

-- how many documents the lines add
abbrev pub added_count : List Reading → ℕ
added_count rs = length (accepted rs)

-- none of the lines is a query line
abbrev pub NoQueryLine : List Reading → Type 0
NoQueryLine rs = AllByRecursion (λ r. is_query_line r ≡ false) rs

-- no query line follows a document line
abbrev pub QueriesFirst : List Reading → Type 0
QueriesFirst [] = Unit {0}
QueriesFirst (r ∷ rs) = (is_document_line r ≡ true → NoQueryLine rs) × QueriesFirst rs

-- the numbers of the first k lines, and then those of a round
abbrev pub joined_numbers : ℕ → (ℕ → ℕ) → (ℕ → ℕ) → ℕ → ℕ
joined_numbers k n m j = if nat_lt j k then n j else m (j - k)

-- each query of the round sees from `least` to `most` documents, and none fewer than one before it
pub record SeesWithin (ss : List Reading) (m : ℕ → ℕ) (low high : ℕ) : Type 0 where
  pub least : (i : ℕ) → IsAsked ss i → low ≤ m i
  pub most : (i : ℕ) → IsAsked ss i → m i ≤ high
  pub rises : (i j : ℕ) → i ≤ j → IsAsked ss i → IsAsked ss j → m i ≤ m j
