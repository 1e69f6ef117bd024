use Rattle.eb_trials.proofs.Givings.{still_stands}
use Rattle.eb_trials.proofs.tests.chains.ask.Goals as goal

pub loop-preserved : goal.loop-preserved
loop-preserved g c =
    let r = c.loop.invariant in
    let n = (c.next.ensures.told r.1 r.2 r.3 r.4).told r.0 r.5 r.6 in
    let w = still_stands n.0 _ _ _ _ _ _ n.4 in
    (n.0, r.1, r.2, r.3, w.0, n.1, w.1)
