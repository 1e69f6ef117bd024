use Rattle.std.proofs.Common.{◌+◌, ◌*◌, ◌≤◌}
use Rattle.eb_place.specs.declared.moment.Moment.{Moment}
use Rattle.eb_place.specs.Room.{text_words}
use Rattle.eb_place.specs.Later.{IsNotBefore}
use Rattle.eb_terms.proofs.Probing.{ArePassed}
use Rattle.eb_terms.proofs.finding.find_hashed.Given as goal

abbrev pub invariant-loop-step : goal.invariant-loop-step
invariant-loop-step g l =
    ((m : Moment) → g.P.Port.stands l.fn.port m
    → (n : Moment) × g.P.Port.stands l.port n × IsNotBefore n m × g.P.Port.keeps l.fn.port m l.port n × ArePassed n l.segment l.term l.step)
    × (l.steps ≤ l.fn.steps + l.step * (2 + text_words l.term))
