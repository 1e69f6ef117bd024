use Rattle.std.proofs.Common.{◌≡◌}
use Rattle.test_threads.proofs.tests.blends.beside.add_beside.Given as goal

abbrev pub invariant-loop-document : goal.invariant-loop-document
invariant-loop-document l = l.writer.indexes ≡ l.blend.indexes
