use Rattle.eb_trials.proofs.tests.leaps.leaps.Given as goal

abbrev pub ghosts-leaps_as_listed : goal.ghosts-leaps_as_listed
ghosts-leaps_as_listed a = record { name = a.blank.name; parts = a.blank.parts }
