use Rattle.run_index.proofs.counting.count_all.Given as goal

abbrev pub ghosts-count_with : goal.ghosts-count_with
ghosts-count_with g a = record { name = a.blank.name; parts = a.blank.parts }
