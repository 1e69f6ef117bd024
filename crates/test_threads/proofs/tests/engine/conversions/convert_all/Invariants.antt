use Rattle.std.proofs.Common.{◌≡◌}
use Rattle.test_threads.proofs.tests.engine.conversions.convert_all.Given as goal

abbrev pub invariant-loop-converted : goal.invariant-loop-converted
invariant-loop-converted g l = (l.reader.index ≡ l.index) × (l.converter.index ≡ l.index)
