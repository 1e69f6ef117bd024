-- What words and numbers that a caller keeps are an index of.
use Rattle.std.specs.Prelude.{◌≡◌, ℕ, List}
use Rattle.eb_base.specs.Document.{Doc}
use Rattle.eb_base.specs.Setting.{Setting, IsSetting, words_of}
use Rattle.eb_place.specs.declared.moment.Moment.{Moment}
use Rattle.eb_place.specs.declared.used.Used.{Used}
use Rattle.eb_flat.specs.Flat.{StandsFor}
use Rattle.eb_writer.specs.Progress.{PlacerProgress, PlacerStands}
use Rattle.eb_c.specs.declared.index.Index.{Index}
use Rattle.eb_c.specs.declared.index.Segment.{Segment}

-- the setting that the numbers name
abbrev pub setting_of : Index → Setting
setting_of i = record { segments = i.segments; docs = i.docs; terms = i.terms }

-- what is used of the last segment
abbrev pub used_of : Segment → Used
used_of s = record { documents = s.documents; terms = s.terms; text = s.text; pool0 = s.pool0; pool1 = s.pool1; pool2 = s.pool2; pool3 = s.pool3 }

-- how far the placer is
abbrev pub progress_of : Index → PlacerProgress
progress_of i = record { setting = setting_of i; segments = i.begun; documents = i.documents; used = used_of i.last }

-- what a call can test: the mark of an index that was begun (`earl`), an allowed setting, and as
-- many words as it needs
pub record IsBegunIndex (i : Index) (n : ℕ) : Type 0 where
  pub mark : i.mark ≡ 0x6561_726c
  pub setting : IsSetting (setting_of i)
  pub size : n ≡ words_of (setting_of i)

-- the words and the numbers are an index that has accepted these documents
pub record Holds (i : Index) (words : List ℕ) (docs : List Doc) : Type 0 where
  pub mark : i.mark ≡ 0x6561_726c
  pub moment : Moment
  pub image : StandsFor (record { setting = setting_of i; words = words }) moment
  pub placer : PlacerStands (progress_of i) moment
  pub accepted : moment.documents.accepted ≡ docs

-- the words and the numbers are an index
abbrev pub IsIndex : Index → List ℕ → Type 0
IsIndex i words = (docs : List Doc) × Holds i words docs
