use Rattle.test_threads.proofs.tests.blends.counting.counted.Given as goal

abbrev pub ghosts-count_alone : goal.ghosts-count_alone
ghosts-count_alone a = record { name = a.blank.name; parts = a.blank.parts }
