use Rattle.std.proofs.Common.{◌≡◌, ◌+◌}
use Rattle.eb_place.specs.declared.moment.Moment.{Moment}
use Rattle.eb_place.specs.Later.{IsNotBefore}
use Rattle.eb_cursor.proofs.Absent.{AreAbsent, AreTold}
use Rattle.eb_cursor.proofs.likely.segments_with.Given as goal

abbrev pub invariant-loop-segment : goal.invariant-loop-segment
invariant-loop-segment g l = record {
  told : (m : Moment) → g.P.Port.stands l.fn.port m → (n : Moment) × g.P.Port.stands l.port n × IsNotBefore n m × g.P.Port.keeps l.fn.port m l.port n
      × AreAbsent m l.term l.likely × AreTold n l.term l.segment l.likely;
  loads : l.steps ≡ l.fn.steps + l.segment;
}
