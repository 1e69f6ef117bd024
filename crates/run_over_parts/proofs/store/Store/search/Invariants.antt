use Rattle.run_over_parts.proofs.store.Store.search.Given as goal

abbrev pub ghosts-search_alone : goal.ghosts-search_alone
ghosts-search_alone g a = record { name = a.blank.name; parts = a.blank.parts }
