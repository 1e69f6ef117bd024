use Rattle.std.proofs.Common.{◌≡◌}
use Rattle.eb_desk.proofs.worker.Worker.next_task.Given as goal

abbrev pub invariant-loop : goal.invariant-loop
invariant-loop g l = l.self ≡ l.initial.self
