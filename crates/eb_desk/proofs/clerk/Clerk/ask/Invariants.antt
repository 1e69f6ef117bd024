use Rattle.eb_desk.proofs.clerk.Clerk.ask.Given as goal

abbrev pub ghosts-cut_permit : goal.ghosts-cut_permit
ghosts-cut_permit g a = record { pair = g.J.Job.pair a.job.now }
