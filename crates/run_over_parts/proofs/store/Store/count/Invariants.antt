use Rattle.run_over_parts.proofs.store.Store.count.Given as goal

abbrev pub ghosts-count_alone : goal.ghosts-count_alone
ghosts-count_alone g a = record { name = a.blank.name; parts = a.blank.parts }
