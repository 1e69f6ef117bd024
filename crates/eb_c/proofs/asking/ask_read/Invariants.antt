use Rattle.eb_c.proofs.asking.ask_read.Given as goal

abbrev pub ghosts-search_words : goal.ghosts-search_words
ghosts-search_words a = record { name = a.blank.name; parts = a.blank.parts }
