-- How a line is read.
use Rattle.eb_fields.specs.Dialect.{Dialect}
use Rattle.std.specs.Prelude.{◌≡◌, ℕ, List, Result, Ok, Err}
use Rattle.eb_base.specs.Document.{Doc}
use Rattle.eb_io.specs.Lines.{Line, line, long_line}
use Rattle.eb_doc.specs.WithFields.{document_with}
use Rattle.eb_doc.specs.declared.LineFault.{LineFault}
use Rattle.eb_doc.specs.declared.LineFault.TheVariants as fault
use Rattle.eb_query.specs.Reading.{Outcome, asks, bad_number, bad_query, too_deep, too_many_nodes, ReadsWith}
use Rattle.eb_lines.specs.declared.refusal.Refusal.TheVariants.{BadLine, LongLine, BadJson, BadDocument, TooLong, BadNumber, BadQuery, QueryTooLarge, QueryTooDeep}
use Rattle.eb_lines.specs.Reading.{Reading, blank, document, query, refused}
use Rattle.eb_lines.specs.Kinds.{Kind, blank_line, document_line, query_line, bad_line, kind_of}

-- a document line is its document, or it is refused
abbrev pub IsOfDocument : Result Doc LineFault → Reading → Type 0
IsOfDocument (Ok d) r = r ≡ document d
IsOfDocument (Err fault.BadJson) r = r ≡ refused BadJson
IsOfDocument (Err fault.BadDocument) r = r ≡ refused BadDocument
IsOfDocument (Err fault.TooLong) r = r ≡ refused TooLong
IsOfDocument (Err fault.NoMemory) r = ⊥

-- a query line asks its query, or it is refused
abbrev pub of_query : Outcome → Reading
of_query (asks a q) = query a q
of_query bad_number = refused BadNumber
of_query (bad_query column) = refused (BadQuery column)
of_query too_deep = refused QueryTooDeep
of_query too_many_nodes = refused QueryTooLarge

-- by the dialect
abbrev pub ReadsByKind : Dialect → Kind → List ℕ → Reading → Type 0
ReadsByKind how blank_line bytes r = r ≡ blank
ReadsByKind how document_line bytes r = IsOfDocument (document_with how bytes) r
ReadsByKind how query_line bytes r = (o : Outcome) × ReadsWith how bytes o × (r ≡ of_query o)
ReadsByKind how bad_line bytes r = r ≡ refused BadLine

-- the line is read as this
abbrev pub Reads : Dialect → Line → Reading → Type 0
Reads how (line bytes) r = ReadsByKind how (kind_of how bytes) bytes r
Reads how long_line r = r ≡ refused LongLine
