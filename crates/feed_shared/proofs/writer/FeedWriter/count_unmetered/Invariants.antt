use Rattle.feed_shared.proofs.writer.FeedWriter.count_unmetered.Given as goal

abbrev pub ghosts-count_all_by : goal.ghosts-count_all_by
ghosts-count_all_by g a = record { name = a.blank.name; parts = a.blank.parts }
