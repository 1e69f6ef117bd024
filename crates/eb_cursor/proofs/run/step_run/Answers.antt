use Rattle.std.proofs.Common.{◌≡◌, ℕ, ◌-◌, ◌<◌, ◌≤◌, Bool, length, length-set, drop, set, ap, ◌∙◌, subst, arith}
use Rattle.eb_place.proofs.LaterMoments.{later_on}
use Rattle.eb_cursor.specs.Lists.{gives}
use Rattle.eb_cursor.specs.Posted.{first_below}
use Rattle.eb_cursor.specs.Ready.{IsLeaf}
use Rattle.eb_cursor.specs.Runs.{is_of_run}
use Rattle.eb_cursor.specs.Tops.{top}
use Rattle.eb_cursor.proofs.LastTerms.{loads_at}
use Rattle.eb_cursor.proofs.Leaves.{leaf_lower}
use Rattle.eb_cursor.proofs.Runs.{first_asked, both_told, run_ends}
use Rattle.eb_cursor.proofs.Tellings.{IsLater, gives_later, told_itself}
use Rattle.eb_cursor.proofs.Tops.{top_le}
use Rattle.eb_cursor.proofs.run.step_run.Goals as goal

pub loop-span-init : goal.loop-span-init
loop-span-init g c = record { within = c.requires.within; loads = omega arith; found = λ docs ts end r e. told_itself g.met.P.Port.keeps_itself (λ m p. p) }

pub leaf_below-last-requires : goal.leaf_below-last-requires
leaf_below-last-requires g c = let r = c.requires.ready in
    let at : c.args.asked.first ≡ first_below r.1 (drop c.args.run.to r.2) r.3 = r.6.1 ∙ ap (λ (k : ℕ). first_below r.1 (drop k r.2) r.3) c.requires.left in
    let i = (c.loop-span.invariant.found r.1 r.2 r.3 r.5 at).told r.0 r.4 (r.6.0, r.7) in
    (i.0, is_of_run r.1 r.2 c.args.run, i.1, leaf_lower (gives i.0) (is_of_run r.1 r.2 c.args.run) _ (c.loop-span.span.last - 1) c.loop-span.span.last (omega arith) (i.4.1.last _))

pub leaf_below-first-requires : goal.leaf_below-first-requires
leaf_below-first-requires g c = let r = c.requires.ready in
    let f : ℕ → Bool = is_of_run r.1 r.2 c.args.run in
    let at : c.args.asked.first ≡ first_below r.1 (drop c.args.run.to r.2) r.3 = r.6.1 ∙ ap (λ (k : ℕ). first_below r.1 (drop k r.2) r.3) c.requires.left in
    let i = (c.loop-span.invariant.found r.1 r.2 r.3 r.5 at).told r.0 r.4 (r.6.0, r.7) in
    let y = (c.leaf_below-last.ensures.found f).told i.0 i.1 (leaf_lower (gives i.0) f _ (c.loop-span.span.last - 1) c.loop-span.span.last (omega arith) (i.4.1.last _)) in
    let w : IsLater i.0 y.0 = record { is = g.met.P.Port.lawful _ i.0 i.1; later = y.2 } in (
      y.0,
      f,
      y.1,
      first_asked (gives i.0) (gives y.0) (gives_later i.0 y.0 w) r.1 r.2 c.loop-span.cursors c.leaf_below-last.new.cursor _ c.args.run r.3 c.saturating_sub-end.result c.loop-span.span r.5
          (omega (arith, c.saturating_sub-end.ensures)) i.4.1,
    )

pub loop-span-smaller : goal.loop-span-smaller
loop-span-smaller g c = let r = c.requires.ready in
    let f : ℕ → Bool = is_of_run r.1 r.2 c.args.run in
    let at : c.args.asked.first ≡ first_below r.1 (drop c.args.run.to r.2) r.3 = r.6.1 ∙ ap (λ (k : ℕ). first_below r.1 (drop k r.2) r.3) c.requires.left in
    let i = (c.loop-span.invariant.found r.1 r.2 r.3 r.5 at).told r.0 r.4 (r.6.0, r.7) in
    let y = (c.leaf_below-last.ensures.found f).told i.0 i.1 (leaf_lower (gives i.0) f _ (c.loop-span.span.last - 1) c.loop-span.span.last (omega arith) (i.4.1.last _)) in
    let over : c.args.asked.first ≤ c.loop-span.span.last = c.loop-span-test.true in
    omega (arith, y.4.0, top_le f (c.loop-span.span.last - 1), over, c.requires.some)

pub loop-span-preserved : goal.loop-span-preserved
loop-span-preserved g c =
    let some : c.args.run.to - 1 < length c.loop-span.cursors = omega (arith, c.loop-span.invariant.within, c.requires.ready.5.several) in
    record {
      within = omega (
        arith,
        c.loop-span.invariant.within,
        length-set c.loop-span.cursors (c.args.run.to - 1) c.leaf_below-last.new.cursor,
        length-set (set c.loop-span.cursors (c.args.run.to - 1) c.leaf_below-last.new.cursor) c.args.run.from c.leaf_below-first.new.cursor,
      );
      loads = omega (
        arith,
        c.loop-span.invariant.loads,
        loads_at c.loop-span.cursors _ c.leaf_below-last.new.cursor (c.args.run.to - 1) c.loop-span.steps c.leaf_below-last.new.steps some c.leaf_below-last.ensures.loads,
        loads_at (set c.loop-span.cursors (c.args.run.to - 1) c.leaf_below-last.new.cursor) _ c.leaf_below-first.new.cursor c.args.run.from c.leaf_below-last.new.steps c.leaf_below-first.new.steps
            (omega (arith, some, length-set c.loop-span.cursors (c.args.run.to - 1) c.leaf_below-last.new.cursor)) c.leaf_below-first.ensures.loads,
      );
      found = λ docs ts end r at. record {
        told = λ m st p.
            let f : ℕ → Bool = is_of_run docs ts c.args.run in
            let i = (c.loop-span.invariant.found docs ts end r at).told m st p in
            let y = (c.leaf_below-last.ensures.found f).told i.0 i.1 (leaf_lower (gives i.0) f _ (c.loop-span.span.last - 1) c.loop-span.span.last (omega arith) (i.4.1.last _)) in
            let w : IsLater i.0 y.0 = record { is = g.met.P.Port.lawful _ i.0 i.1; later = y.2 } in
            let z = (c.leaf_below-first.ensures.found f).told y.0 y.1
            (first_asked (gives i.0) (gives y.0) (gives_later i.0 y.0 w) docs ts c.loop-span.cursors c.leaf_below-last.new.cursor _ c.args.run end c.saturating_sub-end.result c.loop-span.span r
            (omega (arith, c.saturating_sub-end.ensures)) i.4.1) in
            let v : IsLater y.0 z.0 = record { is = g.met.P.Port.lawful _ y.0 y.1; later = z.2 } in
            let own : (c.leaf_below-first.result ≡ top f (c.loop-span.span.first - 1)) × IsLeaf (gives z.0) f c.leaf_below-first.new.cursor (c.loop-span.span.first - 1) =
            subst (λ (k : ℕ). (c.leaf_below-first.result ≡ top f k) × IsLeaf (gives z.0) f c.leaf_below-first.new.cursor k) c.saturating_sub-end.ensures (z.4.0, z.4.1) in
            let over : c.args.asked.first ≤ c.loop-span.span.last = c.loop-span-test.true in (
              z.0,
              z.1,
              later_on m y.0 z.0 (later_on m i.0 y.0 i.2 y.2) z.2,
              g.met.P.Port.keeps_on _ _ _ m y.0 z.0 (g.met.P.Port.keeps_on _ _ _ m i.0 y.0 i.3 y.3) z.3,
              both_told (gives i.0) (gives y.0) (gives z.0) (gives_later i.0 y.0 w) (gives_later y.0 z.0 v) docs ts c.loop-span.cursors c.leaf_below-last.new.cursor c.leaf_below-first.new.cursor
                  c.args.run end c.loop-span.span (record { first = c.leaf_below-first.result; last = c.leaf_below-last.result }) r c.loop-span.invariant.within (omega (arith, over, at))
                  (omega (arith, over, c.requires.some)) i.4.0 i.4.1 (y.4.0, y.4.1) own,
            );
      };
    }

pub returns-clause-found : goal.returns-clause-found
returns-clause-found g c = λ docs ts end r. record {
  told = λ m st p.
      let at : c.args.asked.first ≡ first_below docs (drop c.args.run.to ts) end = p.0.1 ∙ ap (λ (k : ℕ). first_below docs (drop k ts) end) c.requires.left in
      let i = (c.loop-span.invariant.found docs ts end r at).told m st (p.0.0, p.1) in
      let low : c.loop-span.span.last < c.args.asked.first = c.loop-span-test.false in
      (i.0, i.1, i.2, i.3, run_ends (gives i.0) docs ts c.loop-span.cursors c.args.run end c.loop-span.span r (omega (arith, low, at)) i.4.0 i.4.1);
}

pub returns-clause-loads : goal.returns-clause-loads
returns-clause-loads g c = c.loop-span.invariant.loads
