use Rattle.std.proofs.Common.{◌≡◌, ℕ, ◌+◌, ◌-◌, ◌≤◌, List, length, drop}
use Rattle.eb_base.specs.Document.{Doc}
use Rattle.eb_base.specs.Query.{word}
use Rattle.eb_count.specs.Counts.{match_count}
use Rattle.eb_count.specs.Tallies.{HasCounted}
use Rattle.eb_place.specs.declared.moment.Moment.{Moment}
use Rattle.eb_place.specs.Later.{IsNotBefore}
use Rattle.eb_place.specs.Room.{cut}
use Rattle.eb_place.specs.Told.{Told}
use Rattle.eb_cursor.specs.Frames.{query_of, SeenAs}
use Rattle.eb_search.specs.Bounds.{loads_from, match_loads}
use Rattle.eb_search.specs.Visible.{AreVisible, AreNone}
use Rattle.eb_search.proofs.Skips.{before}
use Rattle.eb_search.proofs.tallying.tally_walk_likely.Given as goal

abbrev pub invariant-loop-segment : goal.invariant-loop-segment
invariant-loop-segment g l = record {
  seen : SeenAs l.fn.frame l.frame;
  within : l.top ≤ l.begun;
  buckets : length l.tally.buckets ≡ length l.fn.tally.buckets;
  costs : (was : Moment) (docs : List Doc) (t : List ℕ) → length docs ≡ l.count → query_of l.fn.frame ≡ word t → Told g.P.Port.stands g.P.Port.keeps l.fn.port l.port
      (λ m. AreVisible m docs l.firsts l.begun × IsNotBefore m was)
      (λ n. AreVisible n docs l.firsts l.begun × IsNotBefore n was
      × (l.steps ≤ l.fn.steps + loads_from l.likely was n l.top (l.begun - l.top) t + match_loads (length l.fn.tally.buckets) (match_count (word t) (drop (before n.setting docs l.top) docs))));
  told : (docs : List Doc) → length docs ≡ l.count → Told g.P.Port.stands g.P.Port.keeps l.fn.port l.port
      (λ m. AreVisible m docs l.firsts l.begun) (λ n. AreVisible n docs l.firsts l.begun);
  counted : (docs : List Doc) → length docs ≡ l.count → Told g.P.Port.stands g.P.Port.keeps l.fn.port l.port
      (λ m. AreVisible m docs l.firsts l.begun × AreNone (query_of l.fn.frame) (cut m.setting docs) l.likely)
      (λ n. AreVisible n docs l.firsts l.begun
      × HasCounted (query_of l.fn.frame) (drop (before n.setting docs l.top) docs) l.fn.tally l.tally
      × AreNone (query_of l.fn.frame) (cut n.setting docs) l.likely);
}

abbrev pub decreases-loop-segment : goal.decreases-loop-segment
decreases-loop-segment g l = l.top
