-- What the lines of an input are held as until they are processed.
use Rattle.std.specs.Prelude.{ℕ, ◌+◌, List, [], ◌∷◌, Option, Some, None}
use Rattle.eb_io.specs.Lines.{Line, line, long_line}
use Rattle.eb_lines.specs.declared.refusal.Refusal.TheVariants.{BadLine, LongLine}
use Rattle.eb_lines.specs.Reading.{Reading, blank, document, query, refused, watch}
use Rattle.eb_rounds.specs.Inputs.{HeldInput, HeldLine, Entry}
use Rattle.eb_rounds.specs.Inputs as input
use Rattle.eb_fields.specs.Dialect.{Dialect}
use Rattle.eb_lines.specs.Kinds.{Kind, blank_line, document_line, query_line, bad_line, kind_of}

-- what a line is held as, by the dialect; a blank one isn't held
abbrev pub input_by : Kind → List ℕ → Option HeldInput
input_by blank_line bytes = None
input_by document_line bytes = Some (input.document_line bytes)
input_by query_line bytes = Some (input.query_line bytes)
input_by bad_line bytes = Some (input.refused_line BadLine)

abbrev pub held_as : Dialect → Line → Option HeldInput
held_as how (line bytes) = input_by (kind_of how bytes) bytes
held_as how long_line = Some (input.refused_line LongLine)

abbrev pub before_held : ℕ → Option HeldInput → List HeldLine → List HeldLine
before_held number None hs = hs
before_held number (Some i) hs = record { number = number; input = i } ∷ hs

-- those of the lines that are held by it, each with its number; the first is line k + 1
abbrev pub held_from : Dialect → ℕ → List Line → List HeldLine
held_from how k [] = []
held_from how k (l ∷ ls) = before_held (k + 1) (held_as how l) (held_from how (k + 1) ls)

abbrev pub before_entries : ℕ → Reading → List Entry → List Entry
before_entries number blank es = es
before_entries number (document d) es = record { number = number; reading = document d } ∷ es
before_entries number (query a q) es = record { number = number; reading = query a q } ∷ es
before_entries number (refused r) es = record { number = number; reading = refused r } ∷ es
before_entries number (watch n q) es = record { number = number; reading = watch n q } ∷ es

-- the same of lines that are read
abbrev pub entries_from : ℕ → List Reading → List Entry
entries_from k [] = []
entries_from k (r ∷ rs) = before_entries (k + 1) r (entries_from (k + 1) rs)
