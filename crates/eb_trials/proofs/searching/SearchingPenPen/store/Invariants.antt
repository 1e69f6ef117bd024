use Rattle.eb_trials.proofs.searching.SearchingPenPen.store.Given as goal

abbrev pub ghosts-look : goal.ghosts-look
ghosts-look a = record { name = a.blank.name; parts = a.blank.parts }
