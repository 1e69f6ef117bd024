use Rattle.eb_place.specs.declared.moment.Moment.{Moment}
use Rattle.eb_flat.specs.Flat.{StandsFor}
use Rattle.eb_writer.specs.Progress.{PlacerStands}
use Rattle.eb_trials.proofs.tests.chains.postings_take_slices_of_greater_pools.Given as goal

abbrev pub ghosts-walk : goal.ghosts-walk
ghosts-walk g a = record { name = a.blank.name; parts = a.blank.parts }

abbrev pub invariant-loop-more : goal.invariant-loop-more
invariant-loop-more g l = (m : Moment) × StandsFor l.words m × PlacerStands l.placer m
