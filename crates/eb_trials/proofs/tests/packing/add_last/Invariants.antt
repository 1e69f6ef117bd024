use Rattle.eb_place.specs.declared.moment.Moment.{Moment}
use Rattle.eb_writer.specs.Progress.{PlacerStands}
use Rattle.eb_trials.specs.Recorded.{IsRecord}
use Rattle.eb_trials.proofs.tests.packing.add_last.Given as goal

abbrev pub invariant-loop-list : goal.invariant-loop-list
invariant-loop-list l = (m : Moment) × IsRecord l.pen m × PlacerStands l.placer m
