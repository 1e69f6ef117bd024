use Rattle.eb_table.proofs.seats.WriterSeat.store.Given as goal

abbrev pub ghosts-store_word : goal.ghosts-store_word
ghosts-store_word a = record { document = a.document.now }
