use Rattle.eb_place.specs.declared.moment.Moment.{Moment}
use Rattle.eb_trials.specs.Recorded.{IsRecord}
use Rattle.eb_trials.proofs.tests.published.conversions.Given as goal

abbrev pub invariant-loop : goal.invariant-loop
invariant-loop l = (m : Moment) × IsRecord l.pen.pen m
