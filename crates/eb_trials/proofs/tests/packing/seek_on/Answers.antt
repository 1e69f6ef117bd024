use Rattle.std.proofs.Common.{◌∙◌}
use Rattle.eb_trials.proofs.Packs.{still_listed}
use Rattle.eb_trials.proofs.tests.packing.seek_on.Goals as goal

pub loop-most-preserved : goal.loop-most-preserved
loop-most-preserved g c =
    let v = c.loop-most.invariant in
    let k = (c.seek.ensures.told v.2 v.3 v.4 v.5).told v.1 v.6 v.7 in
    let n = (c.next.ensures.told v.2 v.3 _ k.4.0).told k.0 k.1 k.4.1 in
    let w = still_listed n.0 _ _ _ _ _ _ n.4.1 in
    (n.3.0 ∙ k.3.0 ∙ v.0, n.0, v.2, v.3, w.0, n.4.0, n.1, w.1)

pub next-requires : goal.next-requires
next-requires g c =
    let v = c.loop-most.invariant in
    let k = (c.seek.ensures.told v.2 v.3 v.4 v.5).told v.1 v.6 v.7 in
    (k.0, v.2, v.3, _, k.4.0, k.1, k.4.1)

pub returns-in_err-push : goal.returns-in_err-push
returns-in_err-push g c =
    let v = c.loop-most.invariant in
    let k = (c.seek.ensures.told v.2 v.3 v.4 v.5).told v.1 v.6 v.7 in
    let n = (c.next.ensures.told v.2 v.3 _ k.4.0).told k.0 k.1 k.4.1 in
    n.3.0 ∙ k.3.0 ∙ v.0
