use Rattle.std.proofs.Common.{◌≡◌, ℕ, ◌+◌, ◌≤◌, List, length, drop}
use Rattle.eb_base.specs.Document.{Doc}
use Rattle.eb_place.specs.Told.{Told}
use Rattle.eb_cursor.specs.Lists.{gives}
use Rattle.eb_cursor.specs.Loads.{loads_left}
use Rattle.eb_cursor.specs.Posted.{first_below}
use Rattle.eb_cursor.specs.Ready.{AllBehind}
use Rattle.eb_cursor.specs.Runs.{IsRun, StandsAt}
use Rattle.eb_cursor.proofs.run.step_run.Given as goal

abbrev pub decreases-loop-span : goal.decreases-loop-span
decreases-loop-span g l = l.span.last

abbrev pub invariant-loop-span : goal.invariant-loop-span
invariant-loop-span g l = record {
  within : l.run.to ≤ length l.cursors;
  loads : l.steps + loads_left l.cursors ≤ l.initial.steps + loads_left l.initial.cursors;
  found : (docs : List Doc) (ts : List (List ℕ)) (end : ℕ) → IsRun ts l.run → l.asked.first ≡ first_below docs (drop l.run.to ts) end → Told g.P.Port.stands g.P.Port.keeps l.initial.port l.port
      (λ m. AllBehind (gives m) docs ts l.initial.cursors end × StandsAt (gives m) docs ts l.initial.cursors l.run end l.initial.span)
      (λ n. AllBehind (gives n) docs ts l.cursors end × StandsAt (gives n) docs ts l.cursors l.run end l.span);
}
