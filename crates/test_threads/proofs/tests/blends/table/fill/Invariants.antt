use Rattle.std.proofs.Common.{◌≡◌}
use Rattle.test_threads.proofs.tests.blends.table.fill.Given as goal

abbrev pub invariant-loop-number : goal.invariant-loop-number
invariant-loop-number g l = l.writer.indexes ≡ l.blend.indexes
