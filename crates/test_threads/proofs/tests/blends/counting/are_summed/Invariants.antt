use Rattle.std.proofs.Common.{◌≡◌}
use Rattle.test_threads.proofs.tests.blends.counting.are_summed.Given as goal

abbrev pub invariant-loop-term : goal.invariant-loop-term
invariant-loop-term g l = l.writer.indexes ≡ l.blend.indexes
