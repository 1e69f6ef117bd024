use Rattle.eb_place.specs.declared.moment.Moment.{Moment}
use Rattle.eb_writer.specs.Progress.{PlacerStands}
use Rattle.eb_trials.specs.Recorded.{IsRecord}
use Rattle.eb_trials.proofs.tests.packing.add_narrow.Given as goal

abbrev pub invariant-loop-bits : goal.invariant-loop-bits
invariant-loop-bits l = (m : Moment) × IsRecord l.pen m × PlacerStands l.placer m
