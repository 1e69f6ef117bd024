-- What a store with watches holds.
use Rattle.std.specs.Prelude.{◌≡◌, List}
use Rattle.run_store.specs.Rules.{Rules}
use Rattle.eb_base.specs.Document.{Doc}
use Rattle.eb_watch.specs.Seen.{watches_of}
use Rattle.eb_watch.specs.Watches.{Watched}
use Rattle.run_with_watches.specs.declared.watched.Watching.{Watching}
use Rattle.run_with_watches.specs.WatchRules.{with_watches}

-- the store holds these documents by rules of its own, with the watches beside them
pub record IsWatched {S W : Type 0} (holds : S → Rules W → List Doc → W → Type 0) (s : Watching S) (rules : Rules (List Watched)) (docs : List Doc) (ws : List Watched) : Type 0 where
  pub plain : Rules W
  pub beside : W
  pub by_rules : rules ≡ with_watches plain
  pub held : holds s.store plain docs beside
  pub set : watches_of s.watches ≡ ws
