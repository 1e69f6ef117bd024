use Rattle.feed_shared.proofs.reader.FeedReader.search_unmetered.Given as goal

abbrev pub ghosts-search_by : goal.ghosts-search_by
ghosts-search_by g a = record { name = a.blank.name; parts = a.blank.parts }
