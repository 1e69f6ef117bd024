use Rattle.feed_shared.proofs.mail.Slot.open.Given as goal

abbrev pub ghosts-cut : goal.ghosts-cut
ghosts-cut a = record { book = a.reader.now.book }
