use Rattle.std.proofs.Common.{◌≡◌, List, length}
use Rattle.eb_desk.specs.declared.rule.Pair.{Pair}
use Rattle.eb_desk.specs.Desk.{with_work}
use Rattle.eb_desk.proofs.worker.Worker.work.Given as goal

abbrev pub invariant-loop : goal.invariant-loop
invariant-loop g l = (ps : List Pair) × (l.self ≡ with_work l.initial.self ps l.initial.self.stops) × (l.count ≡ length ps)
