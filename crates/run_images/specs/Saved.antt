-- What `save` makes of the lines of an input: the image of the documents that they add.
use Rattle.eb_fields.specs.Dialect.{Dialect}
use Rattle.std.specs.Prelude.{◌≡◌, ℕ, ◌<◌, false, List, [], ◌++◌, Option}
use Rattle.run_store.specs.Rules.{Rules, ComeTo}
use Rattle.std.specs.List.{flat_map}
use Rattle.eb_base.specs.Setting.{Setting}
use Rattle.eb_io.specs.Lines.{Line, line, long_line}
use Rattle.eb_image.specs.Image.{head_of, document_part, image_of}
use Rattle.eb_lines.specs.declared.refusal.Refusal.TheVariants.{LongLine}
use Rattle.eb_lines.specs.declared.status.Status.{Status}
use Rattle.eb_lines.specs.Kinds.{Kind, blank_line, document_line, query_line, bad_line, kind_of}
use Rattle.eb_lines.specs.Outcomes.{Wrote, Means}
use Rattle.eb_lines.specs.Progress.{accepted, refusals}
use Rattle.eb_lines.specs.Reading.{Reading, refused}
use Rattle.eb_lines.specs.Reads.{ReadsByKind}
use Rattle.run_index.specs.IndexRules.{index_rules}

-- what is asked of `save`: how lines are read, and the setting of the index
pub record Asked : Type 0 where
  pub dialect : Dialect
  pub setting : Setting

abbrev pub asked : Dialect → Setting → Asked
asked how σ = record { dialect = how; setting = σ }

-- a query line is a bad line to `save`
abbrev pub kind_to_save : Kind → Kind
kind_to_save blank_line = blank_line
kind_to_save document_line = document_line
kind_to_save query_line = bad_line
kind_to_save bad_line = bad_line

-- the line is read as this, to be saved
abbrev pub ReadsToSave : Dialect → Line → Reading → Type 0
ReadsToSave how (line bytes) r = ReadsByKind how (kind_to_save (kind_of how bytes)) bytes r
ReadsToSave how long_line r = r ≡ refused LongLine

-- the rules of an empty index of this setting, by which nothing is printed
abbrev pub rules_to_save : Asked → Rules (Unit {0})
rules_to_save a = index_rules a.dialect a.setting (record { json = false; stats = false }) []

-- the lines come to these in it
abbrev pub AreReadToSave : Asked → List Line → List Reading → Type 0
AreReadToSave a = ComeTo (ReadsToSave a.dialect) (rules_to_save a)

-- the head, and the parts of the documents that these lines add
pub record AreParts (a : Asked) (lines : List Line) (printed : List ℕ) : Type 0 where
  pub readings : List Reading
  pub read : AreReadToSave a lines readings
  pub bytes : printed ≡ head_of a.setting ++ flat_map document_part (accepted readings)

-- the image of the documents that these lines add
pub record IsSaved (a : Asked) (lines : List Line) (printed : List ℕ) : Type 0 where
  pub readings : List Reading
  pub read : AreReadToSave a lines readings
  pub bytes : printed ≡ image_of a.setting (accepted readings)

-- some line is refused; none is
abbrev pub HasUnsaved : Asked → List Line → Type 0
HasUnsaved a lines = (rs : List Reading) × AreReadToSave a lines rs × (0 < refusals rs)

abbrev pub HasNoUnsaved : Asked → List Line → Type 0
HasNoUnsaved a lines = (rs : List Reading) × AreReadToSave a lines rs × (refusals rs ≡ 0)

-- what a `save` that ends so has written, of an input of these bytes of which this is left
abbrev pub WroteSaved : Asked → Status → List ℕ → Option (List ℕ) → List ℕ → Type 0
WroteSaved a = Wrote (AreParts a) (IsSaved a) (HasUnsaved a) (HasNoUnsaved a)

-- what its status says of that input, whatever became of the output
abbrev pub MeansSaved : Asked → Status → List ℕ → Option (List ℕ) → Type 0
MeansSaved a = Means (HasUnsaved a) (HasNoUnsaved a)
