use Rattle.test_threads.proofs.tests.watches.made.added.Given as goal

abbrev pub ghosts-added_counted : goal.ghosts-added_counted
ghosts-added_counted a = record { name = a.blank.name; parts = a.blank.parts }
