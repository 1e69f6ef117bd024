use Rattle.eb_trials.proofs.tests.cursors.found_of.Given as goal

abbrev pub ghosts-asked : goal.ghosts-asked
ghosts-asked a = record { name = a.blank.name; parts = a.blank.parts }
