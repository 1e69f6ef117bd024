use Rattle.std.proofs.Common.{ℕ, List}
use Rattle.eb_base.specs.Document.{Doc}
use Rattle.eb_base.specs.Setting.{Setting}
use Rattle.eb_feed.specs.Held.{IsFedWith}
use Rattle.eb_trials.proofs.tests.generations.compare.Given as goal

abbrev pub invariant-loop-number : goal.invariant-loop-number
invariant-loop-number g l = (σ : Setting) × (keep : ℕ) × (history : List Doc) × IsFedWith l.row.feed σ keep history
