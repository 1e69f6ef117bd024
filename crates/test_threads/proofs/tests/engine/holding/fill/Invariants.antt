use Rattle.std.proofs.Common.{◌≡◌}
use Rattle.test_threads.proofs.tests.engine.holding.fill.Given as goal

abbrev pub invariant-loop-id : goal.invariant-loop-id
invariant-loop-id l = (l.writer.index ≡ l.index) × (l.converter.index ≡ l.index)

abbrev pub invariant-loop : goal.invariant-loop
invariant-loop l = (l.writer.index ≡ l.index) × (l.converter.index ≡ l.index)
