use Rattle.std.proofs.Common.{◌≡◌, ℕ, ◌+◌, ◌≤◌, List, length, drop}
use mathlib.Core.List.{IsPrefix}
use Rattle.eb_base.specs.Document.{Doc}
use Rattle.eb_base.specs.Query.{word}
use Rattle.eb_count.specs.Counts.{match_count}
use Rattle.eb_count.specs.Tallies.{HasCounted}
use Rattle.eb_cursor.specs.Accepted.{accepted_in}
use Rattle.eb_cursor.specs.Frames.{query_of, SeenAs}
use Rattle.eb_place.specs.declared.moment.Moment.{Moment}
use Rattle.eb_place.specs.Later.{IsNotBefore}
use Rattle.eb_place.specs.Told.{Told}
use Rattle.eb_search.specs.Bounds.{match_loads}
use Rattle.eb_search.proofs.Bounded.{IsGoing}
use Rattle.eb_search.proofs.Segments.{IsUnderWay}
use Rattle.eb_search.proofs.tallying.tally_matches.Given as goal

abbrev pub invariant-loop-end : goal.invariant-loop-end
invariant-loop-end g l = record {
  seen : SeenAs l.fn.frame l.frame;
  within : l.end ≤ l.documents;
  buckets : length l.tally.buckets ≡ length l.fn.tally.buckets;
  costs : (was : Moment) (docs : List Doc) (t : List ℕ) → length docs ≡ l.documents → query_of l.fn.frame ≡ word t → Told g.P.Port.stands g.P.Port.keeps l.fn.port l.port
      (λ m. IsPrefix docs (accepted_in m l.segment) × IsNotBefore m was)
      (IsGoing was l.segment t l.frame (l.fn.steps + match_loads (length l.fn.tally.buckets) (match_count (word t) (drop l.end docs))) l.steps);
  told : (docs : List Doc) → length docs ≡ l.documents → Told g.P.Port.stands g.P.Port.keeps l.fn.port l.port
      (λ m. IsPrefix docs (accepted_in m l.segment))
      (λ n. IsUnderWay l.segment docs l.frame l.end n × HasCounted (query_of l.fn.frame) (drop l.end docs) l.fn.tally l.tally);
}

abbrev pub decreases-loop-end : goal.decreases-loop-end
decreases-loop-end g l = l.end
