-- What an add reads, answers and leaves.
use Rattle.std.specs.Prelude.{◌≡◌, ◌⊎◌, ℕ, ◌==◌, Bool, true, false, List, [], ◌∷◌, ◌++◌, length, nat_lt, Option, Some, None, Result, Ok, Err, if◌then◌else◌}
use Rattle.std.specs.Str.{is_utf8}
use Rattle.eb_base.specs.Document.{Doc}
use Rattle.eb_base.specs.Setting.{Setting}
use Rattle.eb_place.specs.declared.moment.Moment.{Moment}
use Rattle.eb_place.specs.Room.{has_room}
use Rattle.eb_flat.specs.Flat.{Flat, StandsFor}
use Rattle.eb_writer.specs.Progress.{PlacerProgress, PlacerStands}
use Rattle.eb_text.specs.Tokens.{tokens_of}
use Rattle.eb_text.specs.Pieces.{tokens_by}
use Rattle.eb_fields.specs.Dialect.{Dialect}
use Rattle.eb_doc.specs.DocumentLine.{document_of, message}
use Rattle.eb_doc.specs.WithFields as doc
use Rattle.eb_doc.specs.declared.LineFault.{LineFault}
use Rattle.eb_doc.specs.declared.LineFault.TheVariants as fault
use Rattle.eb_c.specs.declared.index.Index.{Index}
use Rattle.eb_c.specs.declared.refusal.Refusal.{Refusal}
use Rattle.eb_c.specs.declared.refusal.Refusal.TheVariants as refusal
use Rattle.eb_c.specs.Numbers.{refusal_number}
use Rattle.eb_c.specs.Holding.{Holds}
use Rattle.eb_c.specs.declared.dialects.Reading.{Reading}
use Rattle.eb_c.specs.Dialects.{dialect_by}

-- a line of more bytes is a long line
abbrev pub is_long : List ℕ → Bool
is_long line = nat_lt 65536 (length line)

-- the line begins with this byte
abbrev pub begins_with : ℕ → List ℕ → Bool
begins_with byte [] = false
begins_with byte (b ∷ bs) = b == byte

-- the faults of a document are refusals of the same names
abbrev pub refusal_of : LineFault → Refusal
refusal_of fault.BadJson = refusal.BadJson
refusal_of fault.BadDocument = refusal.BadDocument
refusal_of fault.TooLong = refusal.TooLong
refusal_of fault.NoMemory = refusal.NoMemory

abbrev pub or_refused : Result Doc LineFault → Result Doc Refusal
or_refused (Ok d) = Ok d
or_refused (Err fault) = Err (refusal_of fault)

-- the document of a document line, which begins with `{` (123)
abbrev pub document_in : List ℕ → Result Doc Refusal
document_in line = if is_long line then Err refusal.LongLine else (if begins_with 123 line then or_refused (document_of line) else Err refusal.BadLine)

-- the document of an id and a text
abbrev pub document_with : ℕ → List ℕ → Result Doc Refusal
document_with id text = if is_utf8 text then or_refused (message id (tokens_of text)) else Err refusal.BadText

-- ---- where lines are read by a dialect

-- the document of a document line
abbrev pub document_in_by : Dialect → List ℕ → Result Doc Refusal
document_in_by how line =
    if is_long line then Err refusal.LongLine else (if begins_with 123 line then or_refused (doc.document_with how line) else Err refusal.BadLine)

-- the document of an id and a text, which is cut by the dialect
abbrev pub document_by : Dialect → ℕ → List ℕ → Result Doc Refusal
document_by how id text = if is_utf8 text then or_refused (message id (tokens_by how.cut text)) else Err refusal.BadText

-- what is read by this; or it doesn't say how to read
abbrev pub read_by : (Dialect → Result Doc Refusal) → Option Dialect → Result Doc Refusal
read_by read None = Err refusal.BadReading
read_by read (Some how) = read how

-- and so where a caller says how
abbrev pub document_in_as : Reading → List ℕ → Result Doc Refusal
document_in_as how line = read_by (λ d. document_in_by d line) (dialect_by how)

abbrev pub document_as : Reading → ℕ → List ℕ → Result Doc Refusal
document_as how id text = read_by (λ d. document_by d id text) (dialect_by how)

-- ---- what comes of it

-- what an add answers after these documents: 0 where there is room
abbrev pub number_after : Setting → List Doc → Result Doc Refusal → ℕ
number_after σ docs (Ok d) = if has_room σ docs d then 0 else refusal_number refusal.Full
number_after σ docs (Err r) = refusal_number r

-- the documents that are accepted then
abbrev pub docs_after : Setting → List Doc → Result Doc Refusal → List Doc
docs_after σ docs (Ok d) = if has_room σ docs d then (docs ++ d ∷ []) else docs
docs_after σ docs (Err r) = docs

-- ---- between two calls

-- what placing a document after those of a moment leaves: the words and the placer have it, or
-- there was no room
abbrev pub WithPlaced : Moment → Flat → PlacerProgress → Doc → Bool → Type 0
WithPlaced m f p d true =
    (has_room m.setting m.documents.accepted d ≡ true) × (n : Moment) × StandsFor f n × PlacerStands p n × (n.documents.accepted ≡ m.documents.accepted ++ d ∷ [])
WithPlaced m f p d false = has_room m.setting m.documents.accepted d ≡ false

-- what adding a document after these leaves: the index has it, or there was no room and it is as
-- before
abbrev pub WithAdded : Setting → List Doc → Doc → Bool → Index → List ℕ → Type 0
WithAdded σ docs d true i words = (has_room σ docs d ≡ true) × Holds i words (docs ++ d ∷ [])
WithAdded σ docs d false i words = (has_room σ docs d ≡ false) × Holds i words docs

-- what a call answers that adds what it read, and what the index holds then; it may have had no
-- memory to read it
abbrev pub Adds : Result Doc Refusal → List Doc → Setting → ℕ → Index → List ℕ → Type 0
Adds r docs σ number i words = ((number ≡ refusal_number refusal.NoMemory) × Holds i words docs)
    ⊎ ((number ≡ number_after σ docs r) × Holds i words (docs_after σ docs r))
