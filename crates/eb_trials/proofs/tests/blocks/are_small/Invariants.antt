use Rattle.std.proofs.Common.{ℕ, ◌<◌, ◌^◌, get_or}
use Rattle.eb_place.specs.Postings.{posting_bits}
use Rattle.eb_trials.proofs.tests.blocks.are_small.Given as goal

abbrev pub invariant-loop-i : goal.invariant-loop-i
invariant-loop-i l = (k : ℕ) → k < l.i → get_or l.postings k 0 < 2 ^ posting_bits
