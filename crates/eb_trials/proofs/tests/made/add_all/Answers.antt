use Rattle.std.proofs.Common.{◌<◌, length, arith, sym, subst}
use Rattle.eb_trials.specs.Added.{HasAdded}
use Rattle.eb_trials.proofs.Additions.{one_added, take_there}
use Rattle.eb_trials.proofs.tests.made.add_all.Goals as goal

pub loop-document-preserved : goal.loop-document-preserved
loop-document-preserved g c m h k =
    let docs = c.args.documents.now in
    let i = c.loop-document.document-index in
    let low : i < length docs = omega arith in
    let a = c.loop-document.invariant m h k in
    let o = c.in-Ok.ensures.ok a.moment a.port a.placer in
    subst (λ z. HasAdded g.P.Port.stands c.add.new.pen c.add.new.self m z) (sym (take_there docs i _ low c.document-item.is)) (one_added g.P.Port.stands _ _ _ _ m o.0 _ _ a o.1 o.4 o.6)
