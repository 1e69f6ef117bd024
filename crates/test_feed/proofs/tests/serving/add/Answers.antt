use Rattle.std.proofs.Common.{[], ◌∷◌, ◌++◌}
use Rattle.test_feed.proofs.tests.serving.add.Goals as goal

pub returns-in-Ok-clause-taken : goal.returns-in-Ok-clause-taken
returns-in-Ok-clause-taken c = let h = c.requires.taken in (h.0 ++ c.args.document.now ∷ [], c.in-Ok.ensures.history h.0 h.1)
