use Rattle.std.proofs.Common.{inl, inr, ℕ, ◌-◌, ◌<◌, ◌≤◌, List, [], length, length-set, get_or, set, refl, ◌∙◌, arith}
use Rattle.std.proofs.lemmas.List.{get_or-set_other}
use Rattle.eb_cursor.specs.Lists.{gives}
use Rattle.eb_cursor.specs.Posted.{is_posting}
use Rattle.eb_cursor.specs.Runs.{AreKept}
use Rattle.eb_cursor.specs.declared.cursor.Cursor.{Cursor}
use Rattle.eb_cursor.proofs.Backwards.{asks_at, told_at}
use Rattle.eb_cursor.proofs.LastTerms.{loads_at}
use Rattle.eb_cursor.proofs.Tellings.{told_itself, told_on, gives_later}
use Rattle.eb_cursor.proofs.window.ask_down.Goals as goal

kept_on : (old cursors : List Cursor) (c : Cursor) (left high : ℕ) → 0 < left → left ≤ high → AreKept old cursors left high → AreKept old (set cursors (left - 1) c) (left - 1) high
kept_on old cursors c left high some h kept i d (inl low) = get_or-set_other cursors (left - 1) i c d (λ e. omega (arith, e, low)) ∙ kept i d (inl (omega (arith, low)))
kept_on old cursors c left high some h kept i d (inr far) = get_or-set_other cursors (left - 1) i c d (λ e. omega (arith, e, far, h, some)) ∙ kept i d (inr far)

pub down-init : goal.down-init
down-init g c = record {
  falls = omega arith;
  within = c.requires.within;
  low = λ h. h;
  kept = λ i d h. refl;
  loads = omega arith;
  found = λ docs ts end. told_itself g.met.P.Port.keeps_itself (λ m r. r);
}

pub leaf_below-first-requires : goal.leaf_below-first-requires
leaf_below-first-requires g c = let r = c.requires.ready in
    let i = (c.down.invariant.found r.1 r.2 r.3).told r.0 r.4 r.5 in
    let within : c.down.asked.left ≤ length c.down.cursors = omega (arith, c.down.invariant.within, c.down.invariant.falls) in (
      i.0,
      is_posting r.1 (get_or r.2 (c.down.asked.left - 1) []),
      i.1,
      asks_at (gives i.0) r.1 r.2 c.down.cursors _ c.down.asked.left c.down.asked.first r.3 (omega (arith, c.down-test.ensures.0)) within i.4,
    )

pub down-preserved : goal.down-preserved
down-preserved g c =
    let some : 0 < c.down.asked.left = omega (arith, c.down-test.ensures.0) in
    let within : c.down.asked.left ≤ length c.down.cursors = omega (arith, c.down.invariant.within, c.down.invariant.falls) in
    record {
      falls = omega (arith, c.down.invariant.falls);
      within = omega (arith, c.down.invariant.within, length-set c.down.cursors (c.down.asked.left - 1) c.leaf_below-first.new.cursor);
      low = λ h. omega (arith, c.down-test.ensures.0);
      kept = kept_on c.args.cursors.now c.down.cursors c.leaf_below-first.new.cursor c.down.asked.left c.args.asked.left some c.down.invariant.falls c.down.invariant.kept;
      loads = omega (
        arith,
        c.down.invariant.loads,
        loads_at c.down.cursors _ c.leaf_below-first.new.cursor (c.down.asked.left - 1) c.down.steps c.leaf_below-first.new.steps
            (omega (arith, within, some)) c.leaf_below-first.ensures.loads,
      );
      found = λ docs ts end. told_on g.met.P.Port.lawful g.met.P.Port.keeps_on (c.down.invariant.found docs ts end)
          (c.leaf_below-first.ensures.found (is_posting docs (get_or ts (c.down.asked.left - 1) [])))
          (λ m r. r)
          (λ l m w r x. asks_at (gives m) docs ts c.down.cursors _ c.down.asked.left c.down.asked.first end some within x)
          (λ l m n w v r x y. told_at (gives m) (gives n) (gives_later m n v) docs ts c.down.cursors c.leaf_below-first.new.cursor c.down.asked.left c.down.asked.first end
          c.leaf_below-first.result some within x y);
    }
