use Rattle.eb_trials.proofs.tests.packing.is_packed.Given as goal

abbrev pub ghosts-gives : goal.ghosts-gives
ghosts-gives a = record { name = a.blank.name; parts = a.blank.parts }
