use Rattle.std.proofs.Common.{ℕ, ◌<◌, ◌≤◌, length, arith, ◌∙◌, sym, subst, refl}
use Rattle.eb_cursor.specs.Lists.{gives}
use Rattle.eb_cursor.specs.Posted.{is_posting, is_window_end, first_below, reach_end, last_term}
use Rattle.eb_cursor.proofs.Tops.{top_le}
use Rattle.eb_cursor.proofs.Readies.{behind_lower}
use Rattle.eb_cursor.proofs.Windows.{window_here, window_falls, span_begins, behind_length, top_zero}
use Rattle.eb_cursor.proofs.Spans.{reach_up}
use Rattle.eb_cursor.proofs.Runs.{nothing_known, known_lower}
use Rattle.eb_cursor.proofs.Tellings.{told_itself, told_as, told_on}
use Rattle.eb_cursor.proofs.window.windows_below.Goals as goal

pub loop-place-init : goal.loop-place-init
loop-place-init g c = record {
  falls = omega arith;
  loads = omega arith;
  found = λ docs ts last h run. told_itself g.met.P.Port.keeps_itself
      (λ m r. (refl, behind_lower (gives m) docs ts c.args.cursors.now c.args.end last h r, nothing_known (gives m) docs ts c.args.cursors.now c.args.run c.args.end));
}

pub look_below-span-requires-clause-ready : goal.look_below-span-requires-clause-ready
look_below-span-requires-clause-ready g c = let r = c.requires.ready in
    let i = (c.loop-place.invariant.found r.1 r.2 r.3 r.5 r.6).told r.0 r.4 r.7 in
    (i.0, r.1, r.2, c.loop-place.place, i.1, omega arith, r.6, i.4.1, i.4.2)

pub end_of_reach-reached-requires : goal.end_of_reach-reached-requires
end_of_reach-reached-requires g c = let r = c.requires.ready in
    let i = (c.loop-place.invariant.found r.1 r.2 r.3 r.5 r.6).told r.0 r.4 r.7 in
    let x = (c.look_below-span.ensures.found r.1 r.2 c.loop-place.place (omega arith) r.6).told i.0 i.1 (i.4.1, i.4.2) in
    let few = behind_length (gives r.0) r.1 r.2 c.args.cursors.now r.3 r.7 in
    omega (arith, span_begins (gives x.0) r.1 r.2 _ _ c.loop-place.place _ _ (omega (arith, few, c.requires.some)) x.4.0, c.requires.small, c.loop-place.invariant.falls)

pub returns-then-span-reached-clause-found : goal.returns-then-span-reached-clause-found
returns-then-span-reached-clause-found g c = λ docs ts last h run.
    told_on g.met.P.Port.lawful g.met.P.Port.keeps_on (c.loop-place.invariant.found docs ts last h run) (c.look_below-span.ensures.found docs ts c.loop-place.place (omega arith) run)
    (λ l r. r) (λ l m w r i. (i.1, i.2))
    (λ l m n w1 w2 r i x.
    let few = behind_length (gives l) docs ts c.args.cursors.now last r in
    let some : 0 < length ts = omega (arith, few, c.requires.some) in
    let near : c.look_below-span.result.last ≤ reach_end c.args.reach c.look_below-span.result.first = omega (arith, c.if-span-reached.true, c.end_of_reach-reached.ensures) in
    let within : c.look_below-span.result.last ≤ reach_end c.args.reach (first_below docs ts c.loop-place.place) =
    subst (λ (k : ℕ). c.look_below-span.result.last ≤ reach_end c.args.reach k) (x.0.1 (omega (arith, near))) near in (
      window_here docs ts c.args.reach c.loop-place.place c.look_below-span.result.last some x.0.2 within ∙ sym i.0,
      behind_lower (gives n) docs ts c.look_below-span.new.cursors c.look_below-span.result.last c.loop-place.place
          (omega (arith, x.0.2, top_le (is_posting docs (last_term ts)) c.loop-place.place)) x.0.3,
    ))

pub loop-place-smaller : goal.loop-place-smaller
loop-place-smaller g c = let r = c.requires.ready in
    let i = (c.loop-place.invariant.found r.1 r.2 r.3 r.5 r.6).told r.0 r.4 r.7 in
    let x = (c.look_below-span.ensures.found r.1 r.2 c.loop-place.place (omega arith) r.6).told i.0 i.1 (i.4.1, i.4.2) in
    let over : c.end_of_reach-reached.result < c.look_below-span.result.last = c.if-span-reached.false in
    omega (arith, x.4.0.2, top_le (is_posting r.1 (last_term r.2)) c.loop-place.place, over)

pub loop-place-preserved : goal.loop-place-preserved
loop-place-preserved g c = let r = c.requires.ready in
    let i = (c.loop-place.invariant.found r.1 r.2 r.3 r.5 r.6).told r.0 r.4 r.7 in
    let x = (c.look_below-span.ensures.found r.1 r.2 c.loop-place.place (omega arith) r.6).told i.0 i.1 (i.4.1, i.4.2) in
    let over : c.end_of_reach-reached.result < c.look_below-span.result.last = c.if-span-reached.false in
    let falls : c.end_of_reach-reached.result ≤ c.loop-place.place = omega (arith, x.4.0.2, top_le (is_posting r.1 (last_term r.2)) c.loop-place.place, over) in
    record {
      falls = omega (arith, falls, c.loop-place.invariant.falls);
      loads = omega (arith, c.look_below-span.ensures.loads, c.loop-place.invariant.loads);
      found =
          λ docs ts last h run. told_on g.met.P.Port.lawful g.met.P.Port.keeps_on (c.loop-place.invariant.found docs ts last h run)
          (c.look_below-span.ensures.found docs ts c.loop-place.place (omega arith) run)
          (λ l r. r) (λ l m w r i. (i.1, i.2))
          (λ l m n w1 w2 r i x.
          let up = reach_up c.args.reach (first_below docs ts c.loop-place.place) c.look_below-span.result.first x.0.0 in
          let reached : reach_end c.args.reach (first_below docs ts c.loop-place.place) ≤ c.end_of_reach-reached.result = omega (arith, up, c.end_of_reach-reached.ensures) in (
            i.0 ∙ window_falls docs ts c.args.reach c.loop-place.place c.end_of_reach-reached.result reached falls,
            behind_lower (gives n) docs ts c.look_below-span.new.cursors c.end_of_reach-reached.result c.loop-place.place falls x.0.3,
            known_lower (gives n) docs ts c.look_below-span.new.cursors c.args.run c.end_of_reach-reached.result c.loop-place.place c.look_below-span.new.known run falls x.1,
          ));
    }

pub returns-clause-found : goal.returns-clause-found
returns-clause-found g c = λ docs ts last h run.
    told_as g.met.P.Port.lawful (c.loop-place.invariant.found docs ts last h run) (λ m r. r)
    (λ m n w r i. (top_zero (is_window_end docs ts c.args.reach) c.loop-place.place c.loop-place-test.false ∙ sym i.0, i.1))
