use Rattle.std.proofs.Common.{◌≢◌, ℕ, ◌+◌, ◌<◌, ◌≤◌, get_or}
use Rattle.eb_watch.specs.Ends.{none}
use Rattle.eb_watch.proofs.ends.is_near.Given as goal

abbrev pub invariant-loop-at : goal.invariant-loop-at
invariant-loop-at l = (k : ℕ) → k < l.at → get_or l.ends k 0 ≢ none → get_or l.ends k 0 ≤ k + l.reach → ⊥
