use Rattle.std.proofs.Common.{◌≡◌, ℕ, List, sym, subst}
use Rattle.eb_doc.specs.DocumentLine.{document_of}
use Rattle.eb_doc.specs.WithFields.{document_with}
use Rattle.eb_fields.specs.Dialect.{plain}
use Rattle.eb_lines.specs.Kinds.{Kind, blank_line, document_line, query_line, bad_line, kind_of}
use Rattle.eb_lines.specs.Laws.{ReadsPlainly}
use Rattle.eb_lines.specs.Reading.{Reading}
use Rattle.eb_lines.specs.Reads.{IsOfDocument, ReadsByKind}
use Rattle.eb_lines.proofs.laws.lines_in_plain.Goals as goal

of_kind : ((bytes : List ℕ) → document_with plain bytes ≡ document_of bytes) → (k : Kind) (bytes : List ℕ) (r : Reading)
    → (ReadsByKind plain k bytes r → ReadsPlainly k bytes r) × (ReadsPlainly k bytes r → ReadsByKind plain k bytes r)
of_kind same blank_line bytes r = (λ h. h, λ h. h)
of_kind same document_line bytes r = (subst (λ d. IsOfDocument d r) (same bytes), subst (λ d. IsOfDocument d r) (sym (same bytes)))
of_kind same query_line bytes r = (λ h. h, λ h. h)
of_kind same bad_line bytes r = (λ h. h, λ h. h)

pub returns : goal.returns
returns c = λ bytes r. of_kind c.in_plain.ensures (kind_of plain bytes) bytes r
