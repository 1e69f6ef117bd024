use Rattle.eb_place.specs.declared.moment.Moment.{Moment}
use Rattle.eb_trials.specs.Recorded.{IsRecord}
use Rattle.eb_trials.proofs.tests.packing.packed_lists_are_walked_and_leapt_over.Given as goal

abbrev pub invariant-loop-list : goal.invariant-loop-list
invariant-loop-list g l = (m : Moment) × IsRecord l.pen m

abbrev pub invariant-loop-bits : goal.invariant-loop-bits
invariant-loop-bits g l = (m : Moment) × IsRecord l.pen m
