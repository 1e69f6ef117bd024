use Rattle.std.proofs.Common.{◌≡◌, ◌≤◌}
use Rattle.test_runs.proofs.tests.rounds.printed.Given as goal

abbrev pub invariant-loop-line : goal.invariant-loop-line
invariant-loop-line g l = (l.desk.writer.index ≡ l.desk.index) × (l.desk.reader.index ≡ l.desk.index) × (l.desk.converter.index ≡ l.desk.index)
    × (l.desk.rounds.greatest ≤ l.desk.number)
