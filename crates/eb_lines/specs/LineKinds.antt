-- What each kind says of a line.
use Rattle.std.specs.Prelude.{◌≡◌, ℕ, true, List, Some, slice_get}
use Rattle.eb_fields.specs.Dialect.{Dialect}
use Rattle.eb_query.specs.Head.{begins_query}
use Rattle.eb_lines.specs.declared.kind.LineKind.{LineKind}
use Rattle.eb_lines.specs.declared.kind.LineKind.TheVariants.{Blank, Document, Query, Bad}
use Rattle.eb_lines.specs.Kinds.{blank_line, document_line, query_line, bad_line, kind_of}

-- the line is of this kind, by the dialect; the text of a query line is the line, and begins as one
abbrev pub IsOfKind : Dialect → List ℕ → LineKind → Type 0
IsOfKind how bytes Blank = kind_of how bytes ≡ blank_line
IsOfKind how bytes Document = kind_of how bytes ≡ document_line
IsOfKind how bytes (Query text) = (kind_of how bytes ≡ query_line) × (text.now ≡ bytes) × (begins_query how text.now ≡ true)
IsOfKind how bytes Bad = kind_of how bytes ≡ bad_line

-- the text of a query line begins with `?` (63)
abbrev pub HasQuestionMark : LineKind → Type 0
HasQuestionMark Blank = Unit {0}
HasQuestionMark Document = Unit {0}
HasQuestionMark (Query text) = slice_get text.now 0 ≡ Some 63
HasQuestionMark Bad = Unit {0}
