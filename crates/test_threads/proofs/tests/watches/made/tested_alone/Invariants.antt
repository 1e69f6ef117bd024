use Rattle.test_threads.proofs.tests.watches.made.tested_alone.Given as goal

abbrev pub ghosts-tested_counted : goal.ghosts-tested_counted
ghosts-tested_counted a = record { name = a.blank.name; parts = a.blank.parts }
