-- Held lines, and how they are read.
use Rattle.eb_fields.specs.Dialect.{Dialect}
use Rattle.std.specs.Prelude.{◌≡◌, ℕ, ◌++◌, List, [], ◌∷◌, flat_map, if◌then◌else◌}
use Rattle.eb_base.specs.Document.{Doc}
use Rattle.eb_base.specs.Setting.{Setting}
use Rattle.eb_doc.specs.WithFields.{document_with}
use Rattle.eb_query.specs.Head.{begins_query}
use Rattle.eb_lines.specs.Kinds.{Kind, bad_line}
use Rattle.eb_lines.specs.Kinds as kind
use Rattle.eb_lines.specs.Reads.{IsOfDocument, ReadsByKind}
use Rattle.eb_lines.specs.declared.refusal.Refusal.{Refusal}
use Rattle.eb_lines.specs.Reading.{Reading, refused}
use Rattle.eb_lines.specs.Progress.{documents_in}
use Rattle.run_index.specs.IndexRules.{admit}

-- what a held line is
pub data HeldInput : Type 0 where
  document_line : List ℕ → HeldInput
  query_line : List ℕ → HeldInput
  refused_line : Refusal → HeldInput

-- a held line, with its number
pub record HeldLine : Type 0 where
  pub number : ℕ
  pub input : HeldInput

-- a line that is read, with its number
pub record Entry : Type 0 where
  pub number : ℕ
  pub reading : Reading

-- a query line that doesn't begin as one, by the dialect, is a bad line
abbrev pub kind_held : Dialect → List ℕ → Kind
kind_held how bytes = if begins_query how bytes then kind.query_line else bad_line

-- how it is read, by the dialect
abbrev pub ReadsInput : Dialect → HeldInput → Reading → Type 0
ReadsInput how (document_line bytes) r = IsOfDocument (document_with how bytes) r
ReadsInput how (query_line bytes) r = ReadsByKind how (kind_held how bytes) bytes r
ReadsInput how (refused_line x) r = r ≡ refused x

-- the line is read as this, under its number
pub record ReadsLine (how : Dialect) (h : HeldLine) (e : Entry) : Type 0 where
  pub number : e.number ≡ h.number
  pub reading : ReadsInput how h.input e.reading

-- what becomes of the lines in order, in an index of this setting that holds these documents
unfoldable pub admitted_in : Setting → List Doc → List Entry → List Entry
admitted_in σ docs [] = []
admitted_in σ docs (e ∷ es) = record { number = e.number; reading = admit σ docs e.reading } ∷ admitted_in σ (docs ++ documents_in (admit σ docs e.reading)) es

-- the documents that the lines add, in order
unfoldable pub added : List Entry → List Doc
added es = flat_map (λ (e : Entry). documents_in e.reading) es
