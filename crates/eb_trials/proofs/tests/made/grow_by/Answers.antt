use Rattle.eb_trials.proofs.StoresLeft.{same_grown, grown_on}
use Rattle.eb_trials.proofs.tests.made.grow_by.Goals as goal

pub loop-init : goal.loop-init
loop-init c m h = same_grown _ m h

pub grow_once-requires : goal.grow_once-requires
grow_once-requires c =
    let r = c.requires in
    let a = c.loop.invariant r.0 r.1 in
    (a.moment, a.stands)

pub loop-preserved : goal.loop-preserved
loop-preserved c m h = let a = c.loop.invariant m h in grown_on _ _ _ m a (c.grow_once.ensures a.moment a.stands)
