use Rattle.eb_trials.proofs.tests.made.word_at.Given as goal

abbrev pub ghosts-load : goal.ghosts-load
ghosts-load a = record { name = a.blank.name; parts = a.blank.parts }
