use Rattle.eb_engine.proofs.writer.Writer.count_unmetered.Given as goal

abbrev pub ghosts-count_history_by : goal.ghosts-count_history_by
ghosts-count_history_by g a = record { name = a.blank.name; parts = a.blank.parts }
