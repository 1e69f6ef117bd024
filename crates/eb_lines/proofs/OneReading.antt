-- Each line has one reading, and lines are read one by one.
use Rattle.eb_fields.specs.Dialect.{Dialect}
use Rattle.std.proofs.Common.{◌≡◌, ℕ, List, [], ◌∷◌, ◌++◌, refl, sym, ap, ap₂, ◌∙◌}
use Rattle.std.specs.Prelude.{Result, Ok, Err}
use Rattle.std.specs.List.{AllZip}
use Rattle.eb_base.specs.Document.{Doc}
use Rattle.eb_io.specs.Lines.{Line, line, long_line}
use Rattle.eb_doc.specs.WithFields.{document_with}
use Rattle.eb_doc.proofs.WithNames.{document_with-no_memory}
use Rattle.eb_doc.specs.declared.LineFault.{LineFault}
use Rattle.eb_doc.specs.declared.LineFault.TheVariants as fault
use Rattle.eb_query.proofs.OneOutcome.{one_outcome}
use Rattle.eb_query.proofs.SomeOutcome.{some_outcome}
use Rattle.eb_lines.specs.declared.refusal.Refusal.TheVariants.{BadLine, LongLine, BadJson, BadDocument, TooLong}
use Rattle.eb_lines.specs.Kinds.{Kind, blank_line, document_line, query_line, bad_line, kind_of}
use Rattle.eb_lines.specs.Reading.{Reading, blank, document, refused}
use Rattle.eb_lines.specs.Reads.{IsOfDocument, of_query, ReadsByKind, Reads}

-- ---- a line has one reading

one_document : (d : Result Doc LineFault) (a b : Reading) → IsOfDocument d a → IsOfDocument d b → a ≡ b
one_document (Ok d) a b e f = e ∙ sym f
one_document (Err fault.BadJson) a b e f = e ∙ sym f
one_document (Err fault.BadDocument) a b e f = e ∙ sym f
one_document (Err fault.TooLong) a b e f = e ∙ sym f
one_document (Err fault.NoMemory) a b e f = absurd e

module _ (how : Dialect) where
  pub one_by_kind : (k : Kind) (bytes : List ℕ) (a b : Reading) → ReadsByKind how k bytes a → ReadsByKind how k bytes b → a ≡ b
  one_by_kind blank_line bytes a b e f = e ∙ sym f
  one_by_kind document_line bytes a b e f = one_document (document_with how bytes) a b e f
  one_by_kind query_line bytes a b e f = e.2 ∙ ap of_query (one_outcome how bytes e.0 f.0 e.1 f.1) ∙ sym f.2
  one_by_kind bad_line bytes a b e f = e ∙ sym f

  pub one_reading : (l : Line) (a b : Reading) → Reads how l a → Reads how l b → a ≡ b
  one_reading (line bytes) a b e f = one_by_kind (kind_of how bytes) bytes a b e f
  one_reading long_line a b e f = e ∙ sym f

  pub raw_same : (ls : List Line) (rs ss : List Reading) → AllZip (Reads how) ls rs → AllZip (Reads how) ls ss → rs ≡ ss
  raw_same [] [] [] e f = refl
  raw_same [] [] (s ∷ ss) e f = absurd f
  raw_same [] (r ∷ rs) ss e f = absurd e
  raw_same (l ∷ ls) [] ss e f = absurd e
  raw_same (l ∷ ls) (r ∷ rs) [] e f = absurd f
  raw_same (l ∷ ls) (r ∷ rs) (s ∷ ss) e f = ap₂ (λ x xs. x ∷ xs) (one_reading l r s e.0 f.0) (raw_same ls rs ss e.1 f.1)

-- ---- a line has a reading

some_document : (d : Result Doc LineFault) → (d ≡ Err fault.NoMemory → ⊥) → (r : Reading) × IsOfDocument d r
some_document (Ok d) h = (document d, refl)
some_document (Err fault.BadJson) h = (refused BadJson, refl)
some_document (Err fault.BadDocument) h = (refused BadDocument, refl)
some_document (Err fault.TooLong) h = (refused TooLong, refl)
some_document (Err fault.NoMemory) h = absurd (h refl)

module _ (how : Dialect) where
  pub some_by_kind : (k : Kind) (bytes : List ℕ) → (r : Reading) × ReadsByKind how k bytes r
  some_by_kind blank_line bytes = (blank, refl)
  some_by_kind document_line bytes = some_document (document_with how bytes) (document_with-no_memory how bytes)
  some_by_kind query_line bytes = let o = some_outcome how bytes in (of_query o.0, (o.0, o.1, refl))
  some_by_kind bad_line bytes = (refused BadLine, refl)

  pub some_reading : (l : Line) → (r : Reading) × Reads how l r
  some_reading (line bytes) = some_by_kind (kind_of how bytes) bytes
  some_reading long_line = (refused LongLine, refl)

  pub some_read : (ls : List Line) → (rs : List Reading) × AllZip (Reads how) ls rs
  some_read [] = ([], tt)
  some_read (l ∷ ls) = let r = some_reading l in let rs = some_read ls in (r.0 ∷ rs.0, (r.1, rs.1))

-- ---- lines that are read, with one more

pub raw_push : (reads : Line → Reading → Type 0) (ls : List Line) (rs : List Reading) (l : Line) (r : Reading) → AllZip reads ls rs → reads l r → AllZip reads (ls ++ l ∷ []) (rs ++ r ∷ [])
raw_push reads [] [] l r h e = (e, tt)
raw_push reads [] (s ∷ rs) l r h e = absurd h
raw_push reads (k ∷ ls) [] l r h e = absurd h
raw_push reads (k ∷ ls) (s ∷ rs) l r h e = (h.0, raw_push reads ls rs l r h.1 e)
