use Rattle.eb_fields.specs.Dialect.{dialect_of}
use Rattle.std.proofs.Common.{◌≡◌, ◌+◌, ◌-◌, ◌≤◌, take, drop}
use Rattle.std.specs.List.{AllZip}
use Rattle.run_ahead.specs.Tasks.{IsTaskOf}
use Rattle.run_ahead.proofs.reading.read_some.Given as goal

abbrev pub invariant-loop-at : goal.invariant-loop-at
invariant-loop-at l = record {
  begun : l.from ≤ l.at;
  room : l.tasks.len + l.from ≡ l.at;
  most : l.count ≤ l.tasks.cap;
  read : AllZip (IsTaskOf (dialect_of l.dialect)) (take (l.at - l.from) (drop l.from l.lines)) l.tasks.items;
}
