use Rattle.std.proofs.Common.{length}
use Rattle.eb_place.specs.Postings.{terms_of}
use Rattle.eb_place.specs.Tells.{TellsSegment}
use Rattle.eb_place.specs.Told.{Written}
use Rattle.eb_writer.specs.Storing.{HasComeTo, HasStoredMore, before_it}
use Rattle.eb_writer.specs.Counting.{AreFound}
use Rattle.eb_writer.proofs.storing.store_tokens.Given as goal

abbrev pub invariant-loop-at : goal.invariant-loop-at
invariant-loop-at g l =
    Written g.P.Port.stands g.P.Port.same l.fn.pen l.pen (λ m. HasComeTo m l.document l.segment 0 × TellsSegment l.fn.used m l.segment
    × AreFound (terms_of (before_it m l.document)) l.document.terms l.found (length l.document.terms))
    (λ m n. HasStoredMore m n × HasComeTo n l.document l.segment l.at × TellsSegment l.used n l.segment)
