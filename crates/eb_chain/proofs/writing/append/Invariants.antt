use Rattle.eb_chain.proofs.writing.append.Given as goal

abbrev pub ghosts-load_alone : goal.ghosts-load_alone
ghosts-load_alone g a = record { name = a.blank.name; parts = a.blank.parts }
