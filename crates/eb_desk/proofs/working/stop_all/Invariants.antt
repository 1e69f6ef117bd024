use Rattle.std.proofs.Common.{◌≡◌}
use Rattle.eb_desk.specs.Desk.{with_stops}
use Rattle.eb_desk.proofs.working.stop_all.Given as goal

abbrev pub invariant-loop : goal.invariant-loop
invariant-loop g l = l.clerk ≡ with_stops l.initial.clerk l.counter
