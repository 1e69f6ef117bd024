use Rattle.std.proofs.Common.{◌∙◌, sym, subst}
use Rattle.eb_trials.specs.Recorded.{IsRecord}
use Rattle.eb_trials.proofs.tests.packing.seek_each.Goals as goal

pub seek-requires : goal.seek-requires
seek-requires g c =
    let r = c.requires in
    (r.0, r.1, r.2, r.3, r.4, subst (λ p. IsRecord p r.0) (sym c.loop-most.invariant) r.5, r.6)

pub next-requires : goal.next-requires
next-requires g c =
    let r = c.requires in
    let k = (c.seek.ensures.told r.1 r.2 r.3 r.4).told r.0 (subst (λ p. IsRecord p r.0) (sym c.loop-most.invariant) r.5) r.6 in
    (k.0, r.1, r.2, _, k.4.0, k.1, k.4.1)

pub loop-most-preserved : goal.loop-most-preserved
loop-most-preserved g c =
    let r = c.requires in
    let k = (c.seek.ensures.told r.1 r.2 r.3 r.4).told r.0 (subst (λ p. IsRecord p r.0) (sym c.loop-most.invariant) r.5) r.6 in
    let n = (c.next.ensures.told r.1 r.2 _ k.4.0).told k.0 k.1 k.4.1 in
    n.3.0 ∙ k.3.0 ∙ c.loop-most.invariant

pub returns-in_err-push : goal.returns-in_err-push
returns-in_err-push g c =
    let r = c.requires in
    let k = (c.seek.ensures.told r.1 r.2 r.3 r.4).told r.0 (subst (λ p. IsRecord p r.0) (sym c.loop-most.invariant) r.5) r.6 in
    let n = (c.next.ensures.told r.1 r.2 _ k.4.0).told k.0 k.1 k.4.1 in
    n.3.0 ∙ k.3.0 ∙ c.loop-most.invariant
