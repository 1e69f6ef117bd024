use Rattle.std.proofs.Common.{◌≡◌}
use Rattle.eb_trials.proofs.tests.packing.seek_each.Given as goal

abbrev pub invariant-loop-most : goal.invariant-loop-most
invariant-loop-most g l = l.pen ≡ l.fn.pen
