use Rattle.eb_trials.proofs.tests.chains.walks_what_it_saw.Given as goal

abbrev pub ghosts-is_walk_of_seen : goal.ghosts-is_walk_of_seen
ghosts-is_walk_of_seen a = record { name = a.blank.name; parts = a.blank.parts }
