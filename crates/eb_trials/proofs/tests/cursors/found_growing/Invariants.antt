use Rattle.eb_trials.proofs.tests.cursors.found_growing.Given as goal

abbrev pub ghosts-asked : goal.ghosts-asked
ghosts-asked a = record { name = a.blank.name; parts = a.blank.parts }
