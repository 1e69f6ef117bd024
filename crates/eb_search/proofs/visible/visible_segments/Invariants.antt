use Rattle.std.proofs.Common.{◌≡◌, ◌≤◌, ◌-◌, ◌+◌, List, length}
use mathlib.Core.List.{IsPrefix}
use Rattle.eb_base.specs.Document.{Doc}
use Rattle.eb_place.specs.Told.{Told}
use Rattle.eb_search.proofs.Beginnings.{AreSome}
use Rattle.eb_search.proofs.visible.visible_segments.Given as goal

abbrev pub invariant-loop-segment : goal.invariant-loop-segment
invariant-loop-segment g l = record {
  long : length l.firsts ≡ 64;
  told : (docs : List Doc) → length docs ≡ l.count → Told g.P.Port.stands g.P.Port.keeps l.fn.port l.port
      (λ m. IsPrefix docs m.documents.accepted)
      (λ n. AreSome n docs l.firsts l.segment);
  loads : l.steps ≡ l.fn.steps + l.segment;
  within : l.segment ≤ l.config.segments;
}

abbrev pub decreases-loop-segment : goal.decreases-loop-segment
decreases-loop-segment g l = l.config.segments - l.segment
