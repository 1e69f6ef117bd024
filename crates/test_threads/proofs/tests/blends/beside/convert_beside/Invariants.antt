use Rattle.std.proofs.Common.{◌≡◌}
use Rattle.test_threads.proofs.tests.blends.beside.convert_beside.Given as goal

abbrev pub invariant-loop : goal.invariant-loop
invariant-loop l = l.converter.indexes ≡ l.blend.indexes
