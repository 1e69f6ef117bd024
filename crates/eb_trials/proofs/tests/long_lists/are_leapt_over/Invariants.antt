use Rattle.eb_trials.proofs.tests.long_lists.are_leapt_over.Given as goal

abbrev pub ghosts-leaps_are : goal.ghosts-leaps_are
ghosts-leaps_are a = record { name = a.blank.name; parts = a.blank.parts }
