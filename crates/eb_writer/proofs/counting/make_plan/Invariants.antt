use Rattle.std.proofs.Common.{◌≡◌, ◌++◌, take}
use Rattle.eb_place.specs.declared.moment.Moment.{Moment}
use Rattle.eb_place.specs.Later.{IsNotBefore}
use Rattle.eb_writer.specs.Recall.{Remembers}
use Rattle.eb_writer.specs.Counting.{tokens_in, IsUsedBy, AreFound, IsReady, IsSmall}
use Rattle.eb_writer.proofs.counting.make_plan.Given as goal

abbrev pub invariant-loop-at : goal.invariant-loop-at
invariant-loop-at g l =
    ((m : Moment) → g.P.Port.stands l.fn.pen m → IsReady m l.segment l.fn.used
    → (n : Moment) × g.P.Port.stands l.pen n × IsNotBefore n m × g.P.Port.keeps l.fn.pen m l.pen n
    × AreFound (tokens_in m l.segment) l.terms l.plan.found l.at × IsUsedBy l.plan.used (tokens_in m l.segment ++ take l.at l.terms))
    × Remembers l.plan.recall l.terms l.at × IsSmall l.plan.used l.at × (l.plan.used.documents ≡ l.fn.used.documents)
