use Rattle.std.proofs.Common.{ℕ, List}
use Rattle.eb_base.specs.Document.{Doc}
use Rattle.eb_base.specs.Setting.{Setting}
use Rattle.eb_feed.specs.Held.{IsFedWith}
use Rattle.eb_trials.proofs.tests.feeds.the_oldest_go.Given as goal

abbrev pub invariant-loop-id : goal.invariant-loop-id
invariant-loop-id g l = (σ : Setting) × (keep : ℕ) × (history : List Doc) × IsFedWith l.feed σ keep history
