-- What lines that wait are read as, and what those print whose documents are added many at once.
use Rattle.eb_fields.specs.Dialect.{Dialect}
use Rattle.std.specs.Prelude.{◌≡◌, ℕ, ◌+◌, ◌++◌, Bool, true, false, List, [], ◌∷◌, Option, Some, None, Result, Ok, Err}
use Rattle.run_store.specs.Questions.{MayAsk}
use Rattle.eb_base.specs.Document.{Doc}
use Rattle.eb_base.specs.Query.{tree}
use Rattle.eb_io.specs.Lines.{Line, line, long_line}
use Rattle.eb_lines.specs.declared.form.Form.{Form}
use Rattle.eb_lines.specs.declared.refusal.Refusal.{Refusal}
use Rattle.eb_lines.specs.declared.refusal.Refusal.TheVariants.{LongLine}
use Rattle.eb_lines.specs.Kinds.{Kind, blank_line, document_line, query_line, bad_line, kind_of}
use Rattle.eb_lines.specs.Reading.{blank, document, query, refused}
use Rattle.eb_lines.specs.Reads.{ReadsByKind}
use Rattle.eb_lines.specs.Text.{refusal_line}
use Rattle.run_ahead.specs.declared.lines.HeldLine.{HeldLine}
use Rattle.run_ahead.specs.declared.lines.HeldLine.TheVariants as held
use Rattle.run_ahead.specs.declared.reading.Other.{Other}
use Rattle.run_ahead.specs.declared.reading.Other.TheVariants.{Blank, Ask, Refuse, Leave}

-- which line waits
abbrev pub line_of : HeldLine → Line
line_of (held.Line bytes) = line bytes.now
line_of held.Long = long_line

-- this is to be done for a line of a kind other than the last one, with these fields; one of the
-- last kind is left to the store
abbrev pub IsTaskOfKind : Dialect → Kind → List ℕ → Result Doc Other → Type 0
IsTaskOfKind how kind bytes (Ok d) = ReadsByKind how kind bytes (document d)
IsTaskOfKind how kind bytes (Err Blank) = ReadsByKind how kind bytes blank
IsTaskOfKind how kind bytes (Err (Ask q)) = MayAsk q.ask q.query × ReadsByKind how kind bytes (query q.ask (tree q.query))
IsTaskOfKind how kind bytes (Err (Refuse x)) = ReadsByKind how kind bytes (refused x)
IsTaskOfKind how kind bytes (Err Leave) = ⊥

abbrev pub IsLeftToStore : Result Doc Other → Type 0
IsLeftToStore (Ok d) = ⊥
IsLeftToStore (Err Blank) = ⊥
IsLeftToStore (Err (Ask q)) = ⊥
IsLeftToStore (Err (Refuse x)) = ⊥
IsLeftToStore (Err Leave) = Unit {0}

abbrev pub IsTaskBy : Dialect → Kind → List ℕ → Result Doc Other → Type 0
IsTaskBy how blank_line bytes task = IsTaskOfKind how blank_line bytes task
IsTaskBy how document_line bytes task = IsTaskOfKind how document_line bytes task
IsTaskBy how query_line bytes task = IsTaskOfKind how query_line bytes task
IsTaskBy how bad_line bytes task = IsLeftToStore task

-- this is to be done for a line
abbrev pub IsTaskOf : Dialect → Line → Result Doc Other → Type 0
IsTaskOf how (line bytes) task = IsTaskBy how (kind_of how bytes) bytes task
IsTaskOf how long_line task = task ≡ Err (Refuse LongLine)

-- a line may be among those whose documents are added many at once
abbrev pub is_run_task : Result Doc Other → Bool
is_run_task (Ok d) = true
is_run_task (Err Blank) = true
is_run_task (Err (Ask q)) = false
is_run_task (Err (Refuse x)) = true
is_run_task (Err Leave) = false

abbrev pub AreRun : List (Result Doc Other) → Type 0
AreRun [] = Unit {0}
AreRun (task ∷ tasks) = (is_run_task task ≡ true) × AreRun tasks

-- why a line is refused, where this came of what it is read as
abbrev pub cause : Result Doc Other → Option Refusal → Option Refusal
cause (Ok d) r = r
cause (Err Blank) r = None
cause (Err (Ask q)) r = None
cause (Err (Refuse x)) r = Some x
cause (Err Leave) r = None

-- what is printed for a line that is refused for this cause, if it is
abbrev pub cause_line : Form → ℕ → Option Refusal → List ℕ
cause_line form number None = []
cause_line form number (Some x) = refusal_line form number x

abbrev pub one_cause : Option Refusal → ℕ
one_cause None = 0
one_cause (Some x) = 1

-- what is printed for lines of which the first is line `before + 1`, and how many of them are
-- refused
unfoldable pub run_text : Form → ℕ → List (Result Doc Other) → List (Option Refusal) → List ℕ
run_text form before [] rs = []
run_text form before (task ∷ tasks) [] = []
run_text form before (task ∷ tasks) (r ∷ rs) = cause_line form (before + 1) (cause task r) ++ run_text form (before + 1) tasks rs

unfoldable pub run_refused : List (Result Doc Other) → List (Option Refusal) → ℕ
run_refused [] rs = 0
run_refused (task ∷ tasks) [] = 0
run_refused (task ∷ tasks) (r ∷ rs) = one_cause (cause task r) + run_refused tasks rs
