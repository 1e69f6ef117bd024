use Rattle.std.proofs.Common.{◌+◌, ℕ, ◌≤◌, List, length}
use Rattle.eb_base.specs.Document.{Doc}
use Rattle.eb_place.specs.Told.{Told}
use Rattle.eb_cursor.specs.Lists.{gives}
use Rattle.eb_cursor.specs.Loads.{loads_left}
use Rattle.eb_cursor.specs.Runs.{AreAsked, AreKept}
use Rattle.eb_cursor.proofs.window.ask_down.Given as goal

abbrev pub decreases-down : goal.decreases-down
decreases-down g l = l.asked.left

abbrev pub invariant-down : goal.invariant-down
invariant-down g l = record {
  falls : l.asked.left ≤ l.initial.asked.left;
  within : l.initial.asked.left ≤ length l.cursors;
  low : l.down_to ≤ l.initial.asked.left → l.down_to ≤ l.asked.left;
  kept : AreKept l.initial.cursors l.cursors l.asked.left l.initial.asked.left;
  loads : l.steps + loads_left l.cursors ≤ l.initial.steps + loads_left l.initial.cursors;
  found : (docs : List Doc) (ts : List (List ℕ)) (end : ℕ) → Told g.P.Port.stands g.P.Port.keeps l.initial.port l.port
      (λ m. AreAsked (gives m) docs ts l.initial.cursors end l.initial.asked) (λ n. AreAsked (gives n) docs ts l.cursors end l.asked);
}
