use Rattle.std.proofs.Common.{◌≡◌, ◌+◌, length}
use Rattle.eb_lines.specs.Programs.{IsRunning, WorksOn}
use Rattle.run_ahead.specs.Ahead.{HasHeld, AreWaiting}
use Rattle.run_ahead.proofs.ahead.work_all.Given as goal

abbrev pub invariant-loop-rest : goal.invariant-loop-rest
invariant-loop-rest g l = record {
  on : WorksOn (HasHeld g.P.Store.other g.P.Store.holds) l.initial.ahead l.ahead l.initial.text.items l.text.items;
  running : IsRunning (HasHeld g.P.Store.other g.P.Store.holds) l.ahead;
  waits : AreWaiting l.ahead l.rest;
  held : l.ahead.held ≡ l.initial.ahead.held;
  worked : l.ahead.worked + length l.rest ≡ l.initial.ahead.worked + length l.fn.tasks;
  number : l.ahead.number ≡ l.initial.ahead.number;
}

abbrev pub decreases-loop-rest : goal.decreases-loop-rest
decreases-loop-rest g l = length l.rest
