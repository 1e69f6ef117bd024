use Rattle.std.proofs.Common.{◌≡◌, ℕ, ◌+◌, ◌≤◌, List}
use Rattle.eb_base.specs.Document.{Doc}
use Rattle.eb_place.specs.Told.{Told}
use Rattle.eb_cursor.specs.Lists.{gives}
use Rattle.eb_cursor.specs.Loads.{loads_left}
use Rattle.eb_cursor.specs.Posted.{is_window_end}
use Rattle.eb_cursor.specs.Ready.{AllBehind}
use Rattle.eb_cursor.specs.Runs.{HasRun, Knows}
use Rattle.eb_cursor.specs.Tops.{top}
use Rattle.eb_cursor.proofs.window.windows_below.Given as goal

abbrev pub decreases-loop-place : goal.decreases-loop-place
decreases-loop-place g l = l.place

abbrev pub invariant-loop-place : goal.invariant-loop-place
invariant-loop-place g l = record {
  falls : l.place ≤ l.initial.place;
  loads : l.steps + loads_left l.cursors ≤ l.initial.steps + loads_left l.initial.cursors;
  found : (docs : List Doc) (ts : List (List ℕ)) (last : ℕ) → l.initial.place ≤ last → HasRun l.run ts → Told g.P.Port.stands g.P.Port.keeps l.initial.port l.port
      (λ m. AllBehind (gives m) docs ts l.initial.cursors last)
      (λ n. (top (is_window_end docs ts l.reach) l.initial.place ≡ top (is_window_end docs ts l.reach) l.place) × AllBehind (gives n) docs ts l.cursors l.place
      × Knows (gives n) docs ts l.cursors l.run l.place l.known);
}
