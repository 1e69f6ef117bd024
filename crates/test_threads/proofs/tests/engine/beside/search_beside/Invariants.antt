use Rattle.std.proofs.Common.{◌≡◌}
use Rattle.test_threads.proofs.tests.engine.beside.search_beside.Given as goal

abbrev pub invariant-loop : goal.invariant-loop
invariant-loop l = l.reader.index ≡ l.index
