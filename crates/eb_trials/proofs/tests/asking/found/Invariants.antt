use Rattle.std.proofs.Common.{◌<◌, ℕ, List}
use Rattle.eb_base.specs.Document.{Doc}
use Rattle.eb_place.specs.declared.moment.Moment.{Moment}
use Rattle.eb_cursor.specs.Frames.{MayAsk}
use Rattle.eb_trials.proofs.tests.asking.found.Given as goal

abbrev pub invariant-loop : goal.invariant-loop
invariant-loop g l =
    (m : Moment) × (n : Moment) × (docs : List Doc) × g.P.Port.stands l.fn.port m × g.P.Port.stands l.port n × g.P.Port.keeps l.fn.port m l.port n
    × ((document : ℕ) → document < l.end → MayAsk n l.frame docs document)
