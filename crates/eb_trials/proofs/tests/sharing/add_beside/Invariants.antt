use Rattle.eb_table.specs.Known.{MadeWith}
use Rattle.eb_writer.specs.Progress.{PlacerStands}
use Rattle.eb_trials.proofs.tests.sharing.add_beside.Given as goal

abbrev pub invariant-loop : goal.invariant-loop
invariant-loop l = MadeWith l.seat l.words × PlacerStands l.placer l.seat.moment
