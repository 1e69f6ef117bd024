use Rattle.std.proofs.Common.{◌≡◌, ℕ, List}
use Rattle.eb_place.specs.declared.moment.Moment.{Moment}
use Rattle.eb_block.specs.Reading.{ListStands}
use Rattle.eb_trials.specs.Recorded.{IsRecord}
use Rattle.eb_trials.proofs.tests.packing.seek_on.Given as goal

abbrev pub invariant-loop-most : goal.invariant-loop-most
invariant-loop-most g l = (l.pen ≡ l.fn.pen) × (m : Moment) × (s : ℕ) × (t : List ℕ) × (rest : List ℕ) × (budget : ℕ) × IsRecord l.pen m × ListStands m s t l.list rest budget
