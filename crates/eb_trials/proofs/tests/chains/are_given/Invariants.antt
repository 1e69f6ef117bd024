use Rattle.std.proofs.Common.{◌≤◌, length}
use Rattle.eb_trials.proofs.tests.chains.are_given.Given as goal

abbrev pub invariant-loop-posting : goal.invariant-loop-posting
invariant-loop-posting l = l.left ≤ length l.postings
