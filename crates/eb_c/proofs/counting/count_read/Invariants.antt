use Rattle.eb_c.proofs.counting.count_read.Given as goal

abbrev pub ghosts-count_words : goal.ghosts-count_words
ghosts-count_words a = record { name = a.blank.name; parts = a.blank.parts }
