use Rattle.std.proofs.Common.{◌≡◌, ℕ, ◌<◌, length, get_or}
use Rattle.eb_watch.specs.Ends.{first_end}
use Rattle.eb_watch.proofs.ends.put_first.Given as goal

abbrev pub invariant-loop-at : goal.invariant-loop-at
invariant-loop-at l = (length l.ends ≡ length l.places) × ((k : ℕ) → k < l.at → get_or l.ends k 0 ≡ first_end l.number (get_or l.places k 0) k)
