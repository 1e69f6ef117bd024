use Rattle.std.proofs.Common.{◌-◌, arith, take}
use Rattle.eb_place.proofs.LaterMoments.{later_self}
use Rattle.eb_cursor.specs.Accepted.{accepted_in}
use Rattle.eb_trials.proofs.OneSegment.{first_of}
use Rattle.eb_trials.proofs.tests.asking.found.Goals as goal

pub loop-init : goal.loop-init
loop-init g c =
    let r = c.requires in
    let docs = take c.args.documents (accepted_in r.0 0) in
    let p = first_of (accepted_in r.0 0) c.args.documents r.3 in
    let t = (c.start.ensures.ready docs p.1).told r.0 r.1 p.0 in
    (r.0, t.0, docs, r.1, t.1, t.3, λ document l. t.4 document)

pub at_most-requires : goal.at_most-requires
at_most-requires g c =
    let i = c.loop.invariant in
    (i.1, i.1, i.2, i.6 (c.loop.end - 1) (omega arith), i.4, later_self i.1)

pub loop-preserved : goal.loop-preserved
loop-preserved g c =
    let i = c.loop.invariant in
    let q = i.6 (c.loop.end - 1) (omega arith) in
    let t = (c.at_most.ensures.ready i.1 i.2 q).told i.1 i.4 (later_self i.1) in
    let found = c.in-Some.ensures.found i.1 i.1 i.2 q i.4 (later_self i.1) in
    (i.0, t.0, i.2, i.3, t.1, g.met.P.Port.keeps_on _ _ _ i.0 i.1 t.0 i.5 t.3, λ document l. t.4 document (omega (arith, l, found.within)))

pub returns-in_default : goal.returns-in_default
returns-in_default g c =
    let i = c.loop.invariant in
    let q = i.6 (c.loop.end - 1) (omega arith) in
    let t = (c.at_most.ensures.ready i.1 i.2 q).told i.1 i.4 (later_self i.1) in
    (i.0, t.0, i.3, t.1, g.met.P.Port.keeps_on _ _ _ i.0 i.1 t.0 i.5 t.3)

pub returns-in_err-push : goal.returns-in_err-push
returns-in_err-push g c =
    let i = c.loop.invariant in
    let q = i.6 (c.loop.end - 1) (omega arith) in
    let t = (c.at_most.ensures.ready i.1 i.2 q).told i.1 i.4 (later_self i.1) in
    (i.0, t.0, i.3, t.1, g.met.P.Port.keeps_on _ _ _ i.0 i.1 t.0 i.5 t.3)
