use Rattle.eb_place.specs.declared.moment.Moment.{Moment}
use Rattle.eb_terms.specs.Entering.{IsNextText}
use Rattle.eb_place.proofs.ListOfStores.{after_stores}
use Rattle.eb_terms.proofs.entering.store_text.Given as goal

abbrev pub invariant-loop-at : goal.invariant-loop-at
invariant-loop-at g l =
    (m : Moment) → g.P.Port.stands l.fn.pen m → IsNextText m l.document l.segment l.start l.term
    → g.P.Port.stands l.pen (after_stores l.at m l.document) × g.P.Port.same l.fn.pen l.pen
