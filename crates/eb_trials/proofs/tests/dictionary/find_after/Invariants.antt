use Rattle.eb_trials.proofs.tests.dictionary.find_after.Given as goal

abbrev pub ghosts-find_growing : goal.ghosts-find_growing
ghosts-find_growing a = record { name = a.blank.name; parts = a.blank.parts }
