-- Parts that lines fill and query.
use Rattle.eb_fields.specs.Dialect.{Dialect}
use Rattle.std.specs.Prelude.{◌≡◌, List}
use Rattle.run_store.specs.Rules.{Rules}
use Rattle.eb_base.specs.Document.{Doc}
use Rattle.eb_base.specs.Setting.{Setting}
use Rattle.run_over_parts.specs.declared.parted.Parted.{Parted}
use Rattle.run_over_parts.specs.Stores.{Holds}
use Rattle.run_over_parts.specs.Texts.{parts_rules}

-- these documents, by the rules of this many parts of this setting
pub record IsParted (s : Parted) (rules : Rules (Unit {0})) (docs : List Doc) (none : Unit {0}) : Type 0 where
  pub dialect : Dialect
  pub setting : Setting
  pub by_rules : rules ≡ parts_rules dialect s.number setting s.form
  pub holds : Holds s.parts s.number setting docs
