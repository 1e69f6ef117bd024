use Rattle.eb_trials.proofs.StoresLeft.{grown_on}
use Rattle.eb_trials.proofs.growing.GrowingPort.grow.Goals as goal

pub loop-preserved : goal.loop-preserved
loop-preserved c m h = let a = c.loop.invariant m h in grown_on _ _ _ m a (c.grow_once.ensures a.moment a.stands)
