use Rattle.eb_trials.proofs.Givings.{still_stands}
use Rattle.eb_trials.proofs.tests.leaps.leaps_as_listed.Goals as goal

pub next-second-requires : goal.next-second-requires
next-second-requires g c =
    let r = c.in-Some.ensures in
    let n = (c.next_at_most-first.ensures.told r.1 r.2 r.3 r.4).told r.0 r.5 r.6 in
    let w = still_stands n.0 _ _ _ _ _ _ n.4 in
    (n.0, r.1, r.2, r.3, w.0, n.1, w.1)

pub next_at_most-third-requires : goal.next_at_most-third-requires
next_at_most-third-requires g c =
    let r = c.in-Some.ensures in
    let n = (c.next_at_most-first.ensures.told r.1 r.2 r.3 r.4).told r.0 r.5 r.6 in
    let w = still_stands n.0 _ _ _ _ _ _ n.4 in
    let l = (c.next-second.ensures.told r.1 r.2 r.3 w.0).told n.0 n.1 w.1 in
    let v = still_stands l.0 _ _ _ _ _ _ l.4 in
    (l.0, r.1, r.2, r.3, v.0, l.1, v.1)
