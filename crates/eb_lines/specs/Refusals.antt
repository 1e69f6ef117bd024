-- The table of refusals: each with its name, the kind of line that is refused so, and what it gives
-- beside its name.
use Rattle.std.specs.Prelude.{ℕ, ◌+◌, ◌≤◌, List, codes, length, Option, Some, None}
use Rattle.std.specs.Option.{option_map_or}
use Rattle.eb_lines.specs.declared.refusal.Refusal.{Refusal}
use Rattle.eb_lines.specs.declared.refusal.Refusal.TheVariants.{BadLine, LongLine, BadJson, BadDocument, TooLong}
use Rattle.eb_lines.specs.declared.refusal.Refusal.TheVariants.{NotRising, Full, BadNumber, BadQuery, QueryTooLarge, QueryTooDeep, NoWatch, WatchTaken, WatchesFull}

-- the lines that are refused so: document lines, query lines, those that set or remove a watch, or
-- others
pub data RefusedLine : Type 0 where
  of_document of_query of_watch of_other : RefusedLine

-- a number, the words between the name and it, and its key in JSON
pub record Told : Type 0 where
  pub before : List ℕ
  pub key : List ℕ
  pub number : ℕ

pub record Row : Type 0 where
  pub name : List ℕ
  pub kind : RefusedLine
  pub told : Option Told

abbrev pub named : List ℕ → RefusedLine → Row
named name kind = record { name = name; kind = kind; told = None }

abbrev pub telling : List ℕ → RefusedLine → List ℕ → List ℕ → ℕ → Row
telling name kind before key number = record { name = name; kind = kind; told = Some (record { before = before; key = key; number = number }) }

abbrev pub row : Refusal → Row
row BadLine = named (codes "bad line") of_other
row LongLine = named (codes "long line") of_other
row BadJson = named (codes "bad json") of_document
row BadDocument = named (codes "bad document") of_document
row TooLong = named (codes "too long") of_document
row (NotRising last) = telling (codes "not rising") of_document (codes " after ") (codes "after") last
row Full = named (codes "full") of_document
row BadNumber = named (codes "bad number") of_query
row (BadQuery column) = telling (codes "bad query") of_query (codes " at ") (codes "column") column
row QueryTooLarge = named (codes "query too large") of_query
row QueryTooDeep = named (codes "query too deep") of_query
row NoWatch = named (codes "no watch") of_watch
row WatchTaken = named (codes "watch taken") of_watch
row WatchesFull = named (codes "watches full") of_watch

-- ---- room

-- the most bytes of a name and of the words or the key beside it
abbrev pub most_beside : ℕ
most_beside = 17

-- they fit into the room that each line has
pub record Fits (name : List ℕ) (told : Option Told) : Type 0 where
  pub words : length name + option_map_or (λ (t : Told). length t.before) told 0 ≤ most_beside
  pub key : length name + option_map_or (λ (t : Told). length t.key) told 0 ≤ most_beside
