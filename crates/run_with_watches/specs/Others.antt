-- How a line is read that is neither blank, nor a document or query line, where some lines set
-- watches.
use Rattle.eb_fields.specs.Dialect.{Dialect}
use Rattle.std.specs.Prelude.{◌≡◌, ℕ, ◌==◌, ◌&&◌, Bool, true, false, List, [], ◌∷◌, Option, Some, None, Result, Ok, Err, option_map}
use Rattle.std.specs.Str.{is_utf8}
use Rattle.eb_base.specs.declared.query.Query.{Query}
use Rattle.eb_base.specs.Query.{tree, IsWellFormed}
use Rattle.eb_lines.specs.Reading.{Reading, refused, watch}
use Rattle.eb_lines.specs.declared.refusal.Refusal.{Refusal}
use Rattle.eb_lines.specs.declared.refusal.Refusal.TheVariants.{BadLine, BadNumber, BadQuery, QueryTooLarge, QueryTooDeep}
use Rattle.eb_query.specs.declared.ask.Ask.TheVariants.{Newest, Counts}
use Rattle.eb_query.specs.Reading.{Outcome, asks, bad_number, bad_query, too_deep, too_many_nodes}
use Rattle.eb_query.specs.WatchLine.{WatchOutcome, removes, reads, ReadsWatchWith}

-- a watch line begins with `!` (33), and is UTF-8
abbrev pub is_watch_line : List ℕ → Bool
is_watch_line [] = false
is_watch_line (b ∷ bs) = b == 33 && is_utf8 (b ∷ bs)

-- a watch line sets or removes its watch, or it is refused; none asks for counts
abbrev pub of_watch_text : Outcome → Reading
of_watch_text (asks (Newest n) q) = watch n (Some q)
of_watch_text (asks (Counts x w n) q) = refused BadNumber
of_watch_text bad_number = refused BadNumber
of_watch_text (bad_query column) = refused (BadQuery column)
of_watch_text too_deep = refused QueryTooDeep
of_watch_text too_many_nodes = refused QueryTooLarge

abbrev pub of_watch_line : WatchOutcome → Reading
of_watch_line (removes n) = watch n None
of_watch_line (reads o) = of_watch_text o

-- any other line is a bad line
abbrev pub ReadsOtherBy : Dialect → Bool → List ℕ → Reading → Type 0
ReadsOtherBy how true bytes r = (o : WatchOutcome) × ReadsWatchWith how bytes o × (r ≡ of_watch_line o)
ReadsOtherBy how false bytes r = r ≡ refused BadLine

-- by the dialect
abbrev pub ReadsOther : Dialect → List ℕ → Reading → Type 0
ReadsOther how bytes r = ReadsOtherBy how (is_watch_line bytes) bytes r

-- a query may be watched for
abbrev pub IsFormed : Option Query → Type 0
IsFormed None = Unit {0}
IsFormed (Some q) = IsWellFormed (tree q)

-- the line is read as this, or it is refused
abbrev pub IsOther : Dialect → List ℕ → Result (ℕ × Option Query) Refusal → Type 0
IsOther how bytes (Ok x) = IsFormed x.1 × ReadsOther how bytes (watch x.0 (option_map tree x.1))
IsOther how bytes (Err r) = ReadsOther how bytes (refused r)
