-- An index that lines fill and query.
use Rattle.eb_fields.specs.Dialect.{Dialect}
use Rattle.std.specs.Prelude.{◌≡◌, Bool, true, false, List, [], ◌∷◌, ◌++◌}
use Rattle.run_store.specs.Rules.{Rules}
use Rattle.eb_base.specs.Document.{Doc}
use Rattle.eb_base.specs.Setting.{Setting}
use Rattle.eb_bloom.specs.Covers.{Covers}
use Rattle.eb_place.specs.Room.{has_room, HasRoom}
use Rattle.eb_table.specs.Known.{Words}
use Rattle.run_index.specs.declared.indexed.Indexed.{Indexed}
use Rattle.run_index.specs.Conversions.{AreConverted}
use Rattle.run_index.specs.IndexRules.{index_rules}

-- an index of this setting holds these documents, each segment that is closed is converted, and the
-- filters cover the documents
pub record Holds (s : Indexed) (σ : Setting) (docs : List Doc) : Type 0 where
  pub words : Words
  pub index : s.index ≡ words
  pub setting : words.setting ≡ σ
  pub writer : s.writer.index ≡ words
  pub documents : s.writer.docs ≡ docs
  pub converter : s.converter.index ≡ words
  pub converted : AreConverted σ docs s.converter.converted
  pub filters : Covers s.filters σ docs

-- it goes by the rules of an index that held some of them at first
pub record IsIndexed (s : Indexed) (rules : Rules (Unit {0})) (docs : List Doc) (none : Unit {0}) : Type 0 where
  pub dialect : Dialect
  pub setting : Setting
  pub start : List Doc
  pub by_rules : rules ≡ index_rules dialect setting s.form start
  pub holds : Holds s setting docs

-- a document after these was placed, or there was no room for it and they are all
abbrev pub WithPlaced : Indexed → Setting → List Doc → Doc → Bool → Type 0
WithPlaced s σ docs d true = HasRoom σ docs d × Holds s σ (docs ++ d ∷ [])
WithPlaced s σ docs d false = (has_room σ docs d ≡ false) × Holds s σ docs
