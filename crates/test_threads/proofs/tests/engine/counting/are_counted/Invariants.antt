use Rattle.std.proofs.Common.{◌≡◌}
use Rattle.test_threads.proofs.tests.engine.counting.are_counted.Given as goal

abbrev pub invariant-loop-term : goal.invariant-loop-term
invariant-loop-term g l = l.writer.index ≡ l.index
