use Rattle.std.proofs.Common.{◌≡◌}
use Rattle.test_threads.proofs.tests.engine.conversions.are_answered.Given as goal

abbrev pub invariant-loop-number : goal.invariant-loop-number
invariant-loop-number l = l.reader.index ≡ l.index
