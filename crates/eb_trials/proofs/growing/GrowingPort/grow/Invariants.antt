use Rattle.eb_place.specs.declared.moment.Moment.{Moment}
use Rattle.eb_trials.specs.Grown.{Grows, HasGrown}
use Rattle.eb_trials.proofs.growing.GrowingPort.grow.Given as goal

abbrev pub invariant-loop : goal.invariant-loop
invariant-loop l = (m : Moment) → Grows l.fn.self m → HasGrown l.fn.self l.self m
