use Rattle.std.proofs.Common.{◌≡◌, ◌+◌, ◌≤◌, List, length}
use Rattle.eb_base.specs.Document.{Doc}
use Rattle.eb_base.specs.Query.{since}
use Rattle.eb_place.specs.Told.{Told}
use Rattle.eb_cursor.specs.Accepted.{AreFirst}
use Rattle.eb_cursor.specs.Posted.{match_at}
use Rattle.eb_cursor.specs.Tops.{top}
use Rattle.eb_cursor.proofs.bound.ids_below.Given as goal

abbrev pub decreases-loop-place : goal.decreases-loop-place
decreases-loop-place g l = l.place

abbrev pub invariant-loop-place : goal.invariant-loop-place
invariant-loop-place g l = record {
  falls : l.place ≤ l.initial.place;
  loads : l.steps + l.place ≡ l.initial.steps + l.initial.place;
  found : (docs : List Doc) → l.initial.place ≤ length docs → Told g.P.Port.stands g.P.Port.keeps l.initial.port l.port (λ m. AreFirst m l.segment docs)
      (λ n. (top (match_at docs (since l.bound)) l.initial.place ≡ top (match_at docs (since l.bound)) l.place) × AreFirst n l.segment docs);
}
