-- How far `save` is between two lines.
use Rattle.eb_fields.specs.Dialect.{dialect_of}
use Rattle.std.specs.Prelude.{◌≡◌, ℕ, ◌≤◌, List, ◌++◌, length}
use Rattle.std.specs.List.{flat_map}
use Rattle.eb_image.specs.Image.{head_of, document_part}
use Rattle.eb_io.specs.Lines.{Line}
use Rattle.eb_lines.specs.Programs.{WorksOnGiven}
use Rattle.eb_lines.specs.Progress.{accepted, refusals}
use Rattle.eb_lines.specs.Reading.{Reading}
use Rattle.eb_table.specs.Known.{Words}
use Rattle.run_images.specs.declared.saving.Saving.{Saving}
use Rattle.run_images.specs.Saved.{Asked, ReadsToSave, AreReadToSave}

-- these lines were taken as was asked, and the head and the parts of their documents were written:
-- the history of the index's writer is these documents
pub record HasSaved {G : Type 0} (s : Saving G) (a : Asked) (given : List Line) (so_far : List ℕ) : Type 0 where
  pub dialect : dialect_of s.dialect ≡ a.dialect
  pub words : Words
  pub index : s.index ≡ words
  pub setting : words.setting ≡ a.setting
  pub writer : s.writer.index ≡ words
  pub readings : List Reading
  pub read : AreReadToSave a given readings
  pub documents : s.writer.docs ≡ accepted readings
  pub number : s.number ≡ length given
  pub refused : s.refused ≡ refusals readings
  pub few : s.refused ≤ s.number
  pub written : so_far ≡ head_of a.setting ++ flat_map document_part (accepted readings)

-- a line of this reading was taken, and its part was put after the text
abbrev pub TakesLine : {G : Type 0} → Saving G → Saving G → List ℕ → List ℕ → Reading → Type 0
TakesLine old new text_old text_new r = (l : Line) → ReadsToSave (dialect_of old.dialect) l r → WorksOnGiven HasSaved old new text_old text_new l
