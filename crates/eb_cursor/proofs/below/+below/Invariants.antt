use Rattle.std.proofs.Common.{◌≡◌, ℕ, ◌+◌, ◌*◌, ◌≤◌, List, not}
use Rattle.std.specs.List.{Contains}
use Rattle.eb_base.specs.Document.{Doc}
use Rattle.eb_base.specs.Query.{tree}
use Rattle.eb_place.specs.Told.{Told}
use Rattle.eb_cursor.specs.Lists.{gives}
use Rattle.eb_cursor.specs.AndCosts.{word_parts, PaysRounds}
use Rattle.eb_cursor.specs.Loads.{loads_left}
use Rattle.eb_cursor.specs.Tops.{top}
use Rattle.eb_cursor.specs.Posted.{match_at, each_at}
use Rattle.eb_cursor.specs.Ready.{Ready, AllReady}
use Rattle.eb_cursor.specs.Asked.{weight, weights, trees_in}
use Rattle.eb_cursor.proofs.below.+below.Given as goal

abbrev pub decreases-below : goal.decreases-below
decreases-below g l = 6 * weight (tree l.query.now)

abbrev pub decreases-part_below : goal.decreases-part_below
decreases-part_below g l = 6 * weight (tree l.query.now) + 1

abbrev pub decreases-not_below : goal.decreases-not_below
decreases-not_below g l = 6 * weight (tree l.query.now) + 1

abbrev pub decreases-and_below : goal.decreases-and_below
decreases-and_below g l = 6 * weights (trees_in l.parts.now) + 5

abbrev pub decreases-led_below : goal.decreases-led_below
decreases-led_below g l = 6 * weights (trees_in l.parts.now) + 4

abbrev pub decreases-lead_below : goal.decreases-lead_below
decreases-lead_below g l = 6 * weights (trees_in l.parts.now)

abbrev pub decreases-all_below : goal.decreases-all_below
decreases-all_below g l = 6 * weights (trees_in l.parts.now) + 3

abbrev pub decreases-turns_below : goal.decreases-turns_below
decreases-turns_below g l = 6 * weights (trees_in l.parts.now) + 2

abbrev pub decreases-first_below : goal.decreases-first_below
decreases-first_below g l = 6 * weights (trees_in l.parts.now) + 1

abbrev pub decreases-last_below : goal.decreases-last_below
decreases-last_below g l = 6 * weights (trees_in l.parts.now) + 1

abbrev pub decreases-round_below : goal.decreases-round_below
decreases-round_below g l = 6 * weights (trees_in l.parts.now)

abbrev pub decreases-some_below : goal.decreases-some_below
decreases-some_below g l = 6 * weights (trees_in l.parts.now)

abbrev pub invariant-turns_below-loop-place : goal.invariant-turns_below-loop-place
invariant-turns_below-loop-place g l = record {
  falls : l.place ≤ l.initial.place;
  loads : l.steps + loads_left l.cursors ≤ l.initial.steps + loads_left l.initial.cursors;
  found : (docs : List Doc) (last : ℕ) → l.initial.place ≤ last → Told g.P.Port.stands g.P.Port.keeps l.initial.port l.port
      (λ m. AllReady (gives m) docs (trees_in l.parts) l.initial.cursors last)
      (λ n. (top (each_at docs (trees_in l.parts)) l.initial.place ≡ top (each_at docs (trees_in l.parts)) l.place) × AllReady (gives n) docs (trees_in l.parts) l.cursors l.place);
  rounds : (ts : List (List ℕ)) (t : List ℕ) → trees_in l.parts ≡ word_parts ts → Contains ts t
      → PaysRounds g.P.Port.stands g.P.Port.keeps l.initial.port l.port ts t l.initial.cursors l.cursors l.initial.place l.place 0 l.initial.steps l.steps;
}

abbrev pub decreases-turns_below-loop-place : goal.decreases-turns_below-loop-place
decreases-turns_below-loop-place g l = l.place

abbrev pub invariant-not_below-loop-place : goal.invariant-not_below-loop-place
invariant-not_below-loop-place g l = record {
  falls : l.place ≤ l.initial.place;
  loads : l.steps + loads_left l.cursors ≤ l.initial.steps + loads_left l.initial.cursors;
  found : (docs : List Doc) (last : ℕ) → l.initial.place ≤ last → Told g.P.Port.stands g.P.Port.keeps l.initial.port l.port
      (λ m. Ready (gives m) docs (tree l.query) l.initial.cursors last)
      (λ n. (top (λ k. not (match_at docs (tree l.query) k)) l.initial.place ≡ top (λ k. not (match_at docs (tree l.query) k)) l.place) × Ready (gives n) docs (tree l.query) l.cursors l.place);
}

abbrev pub decreases-not_below-loop-place : goal.decreases-not_below-loop-place
decreases-not_below-loop-place g l = l.place
