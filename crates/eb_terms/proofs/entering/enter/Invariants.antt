use Rattle.eb_terms.proofs.entering.enter.Given as goal

abbrev pub ghosts-free_cell_alone : goal.ghosts-free_cell_alone
ghosts-free_cell_alone g a = record { name = a.blank.name; parts = a.blank.parts }
