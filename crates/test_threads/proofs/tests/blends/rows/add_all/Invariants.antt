use Rattle.std.proofs.Common.{◌≡◌}
use Rattle.test_threads.proofs.tests.blends.rows.add_all.Given as goal

abbrev pub invariant-loop-id : goal.invariant-loop-id
invariant-loop-id g l = l.writer.indexes ≡ l.blend.indexes
