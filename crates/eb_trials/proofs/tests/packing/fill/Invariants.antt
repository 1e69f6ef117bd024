use Rattle.eb_place.specs.declared.moment.Moment.{Moment}
use Rattle.eb_writer.specs.Progress.{PlacerStands}
use Rattle.eb_trials.specs.Recorded.{IsRecord}
use Rattle.eb_trials.proofs.tests.packing.fill.Given as goal

abbrev pub invariant-loop : goal.invariant-loop
invariant-loop l = (m : Moment) × IsRecord l.pen m × PlacerStands l.placer m
