use Rattle.eb_place.specs.declared.moment.Moment.{Moment}
use Rattle.eb_trials.specs.Grown.{Grows, HasGrown}
use Rattle.eb_trials.proofs.tests.made.grow_by.Given as goal

abbrev pub invariant-loop : goal.invariant-loop
invariant-loop l = (m : Moment) → Grows l.fn.port m → HasGrown l.fn.port l.port m
