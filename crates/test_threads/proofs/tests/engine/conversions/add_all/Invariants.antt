use Rattle.std.proofs.Common.{◌≡◌}
use Rattle.test_threads.proofs.tests.engine.conversions.add_all.Given as goal

abbrev pub invariant-loop-document : goal.invariant-loop-document
invariant-loop-document l = l.writer.index ≡ l.index
