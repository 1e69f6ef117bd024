-- A feed that lines fill.
use Rattle.eb_fields.specs.Dialect.{Dialect}
use Rattle.std.specs.Prelude.{◌≡◌, ℕ, List}
use Rattle.run_store.specs.Rules.{Rules}
use Rattle.eb_base.specs.Document.{Doc}
use Rattle.eb_base.specs.Setting.{Setting}
use Rattle.eb_feed.specs.Held.{IsFedWith}
use Rattle.eb_run.specs.declared.feed.fed.Fed.{Fed}
use Rattle.eb_run.specs.FeedOutput.{feed_rules}

-- it has taken these documents, and goes by the rules of a feed
pub record IsFed (s : Fed) (rules : Rules (Unit {0})) (docs : List Doc) (none : Unit {0}) : Type 0 where
  pub dialect : Dialect
  pub setting : Setting
  pub keep : ℕ
  pub by_rules : rules ≡ feed_rules dialect setting keep s.form
  pub fed : IsFedWith s.feed setting keep docs
