-- What holds of lines, over the definitions alone.
use Rattle.eb_fields.specs.Dialect.{plain}
use Rattle.std.specs.Prelude.{◌≡◌, ℕ, List}
use Rattle.eb_doc.specs.DocumentLine.{document_of}
use Rattle.eb_io.specs.Lines.{line}
use Rattle.eb_query.specs.Reading.{Outcome, ReadsAs}
use Rattle.eb_lines.specs.declared.refusal.Refusal.TheVariants.{BadLine}
use Rattle.eb_lines.specs.Kinds.{Kind, blank_line, document_line, query_line, bad_line, kind_of}
use Rattle.eb_lines.specs.Reading.{Reading, blank, refused}
use Rattle.eb_lines.specs.Reads.{IsOfDocument, Reads, of_query}

-- by the rules without options
abbrev pub ReadsPlainly : Kind → List ℕ → Reading → Type 0
ReadsPlainly blank_line bytes r = r ≡ blank
ReadsPlainly document_line bytes r = IsOfDocument (document_of bytes) r
ReadsPlainly query_line bytes r = (o : Outcome) × ReadsAs bytes o × (r ≡ of_query o)
ReadsPlainly bad_line bytes r = r ≡ refused BadLine

-- where no option says otherwise a line is read as by these rules, and as nothing else
abbrev pub LinesInPlain : Type 0
LinesInPlain = (bytes : List ℕ) (r : Reading)
    → (Reads plain (line bytes) r → ReadsPlainly (kind_of plain bytes) bytes r) × (ReadsPlainly (kind_of plain bytes) bytes r → Reads plain (line bytes) r)
