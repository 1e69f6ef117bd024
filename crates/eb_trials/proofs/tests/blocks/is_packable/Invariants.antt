use Rattle.std.proofs.Common.{ℕ, suc, ◌<◌, get_or}
use Rattle.eb_trials.proofs.tests.blocks.is_packable.Given as goal

abbrev pub invariant-loop-i : goal.invariant-loop-i
invariant-loop-i l = (k : ℕ) → suc k < l.i → get_or l.postings (suc k) 0 < get_or l.postings k 0
