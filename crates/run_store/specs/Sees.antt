-- Which documents the queries of a run may see: of each line, how many of those that lines added.
use Rattle.std.specs.Prelude.{◌≡◌, ℕ, ◌+◌, ◌≤◌, Bool, true, false, List, [], ◌∷◌, length, drop, Option, Some, None, slice_get, if◌then◌else◌}
use Rattle.eb_lines.specs.declared.refusal.Refusal.{Refusal}
use Rattle.eb_lines.specs.Refusals.{RefusedLine, of_document, of_query, of_watch, of_other, row}
use Rattle.eb_lines.specs.Reading.{Reading, blank, document, query, refused, watch}
use Rattle.eb_lines.specs.Progress.{documents_in, is_query, accepted, told}

-- the refusal of a document line; of a query line
abbrev pub is_of_document : RefusedLine → Bool
is_of_document of_document = true
is_of_document of_query = false
is_of_document of_watch = false
is_of_document of_other = false

abbrev pub is_of_query : RefusedLine → Bool
is_of_query of_document = false
is_of_query of_query = true
is_of_query of_watch = false
is_of_query of_other = false

abbrev pub of_document_line : Refusal → Bool
of_document_line r = is_of_document (row r).kind

abbrev pub of_query_line : Refusal → Bool
of_query_line r = is_of_query (row r).kind

-- refused lines count too
abbrev pub is_document_line : Reading → Bool
is_document_line blank = false
is_document_line (document d) = true
is_document_line (query a q) = false
is_document_line (refused r) = of_document_line r
is_document_line (watch n q) = false

abbrev pub is_query_line : Reading → Bool
is_query_line blank = false
is_query_line (document d) = false
is_query_line (query a q) = true
is_query_line (refused r) = of_query_line r
is_query_line (watch n q) = false

-- how many documents are accepted before the first query line of these lines, or in all of them where they have none
unfoldable pub until_query : List Reading → ℕ
until_query [] = 0
until_query (r ∷ rs) = if is_query_line r then 0 else length (documents_in r) + until_query rs

-- the same, before the first query line that follows a document line of these lines
unfoldable pub until_next : List Reading → ℕ
until_next [] = 0
until_next (r ∷ rs) = if is_document_line r then length (documents_in r) + until_query rs else until_next rs

-- how many documents are accepted before the first query line that follows a document line that follows line j, counted from 0
abbrev pub next : List Reading → ℕ → ℕ
next rs j = told rs (j + 1) + until_next (drop (j + 1) rs)

-- line j, counted from 0, is a query that is answered
abbrev pub is_asked : Option Reading → Bool
is_asked None = false
is_asked (Some r) = is_query r

abbrev pub IsAsked : List Reading → ℕ → Type 0
IsAsked rs j = is_asked (slice_get rs j) ≡ true

-- each query sees the documents accepted before it, and no more than those before the next query line that follows a document
-- line after it; none sees less than one before it
pub record SeesBetween (rs : List Reading) (n : ℕ → ℕ) : Type 0 where
  pub least : (j : ℕ) → IsAsked rs j → told rs j ≤ n j
  pub most : (j : ℕ) → IsAsked rs j → n j ≤ next rs j
  pub rises : (i j : ℕ) → i ≤ j → IsAsked rs i → IsAsked rs j → n i ≤ n j

-- each query sees at least the documents accepted before its line, and no more than all
pub record SeesTold (rs : List Reading) (n : ℕ → ℕ) : Type 0 where
  pub least : (j : ℕ) → IsAsked rs j → told rs j ≤ n j
  pub most : (j : ℕ) → IsAsked rs j → n j ≤ length (accepted rs)

-- by the way of a run: those before its line; those, and some up to the next query line; those, and any
pub data Reach : Type 0 where
  exactly : Reach
  between : Reach
  at_least : Reach

abbrev pub Reaches : Reach → List Reading → (ℕ → ℕ) → Type 0
Reaches exactly rs n = (j : ℕ) → n j ≡ told rs j
Reaches between rs n = SeesBetween rs n
Reaches at_least rs n = SeesTold rs n
