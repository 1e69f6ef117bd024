use Rattle.eb_table.specs.Known.{MadeWith}
use Rattle.eb_trials.proofs.tests.sharing.walk_beside.Given as goal

abbrev pub ghosts-walk_shared : goal.ghosts-walk_shared
ghosts-walk_shared a = record { name = a.blank.name; parts = a.blank.parts }

abbrev pub invariant-loop : goal.invariant-loop
invariant-loop l = MadeWith l.seat l.words
