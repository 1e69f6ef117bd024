use Rattle.feed_shared.proofs.reader.FeedReader.count_unmetered.Given as goal

abbrev pub ghosts-count_by : goal.ghosts-count_by
ghosts-count_by g a = record { name = a.blank.name; parts = a.blank.parts }
