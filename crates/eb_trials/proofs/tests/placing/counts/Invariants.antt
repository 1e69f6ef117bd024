use Rattle.eb_place.specs.declared.moment.Moment.{Moment}
use Rattle.eb_flat.specs.Flat.{StandsFor}
use Rattle.eb_writer.specs.Progress.{PlacerStands}
use Rattle.eb_trials.proofs.tests.placing.counts.Given as goal

abbrev pub invariant-loop : goal.invariant-loop
invariant-loop l = (m : Moment) × StandsFor l.words m × PlacerStands l.placer m
