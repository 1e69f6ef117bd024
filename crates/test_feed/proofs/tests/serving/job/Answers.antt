use Rattle.test_feed.proofs.tests.serving.job.Goals as goal

pub returns-in-Ok-clause-made : goal.returns-in-Ok-clause-made
returns-in-Ok-clause-made c = let h = c.requires.taken in c.in-Ok.ensures.made h.0 h.1
