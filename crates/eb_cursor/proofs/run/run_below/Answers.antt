use Rattle.std.proofs.Common.{◌≡◌, ℕ, ◌-◌, ◌<◌, ◌≤◌, length, ◌∙◌, arith}
use Rattle.eb_place.proofs.LaterMoments.{later_on}
use Rattle.eb_cursor.specs.Lists.{gives}
use Rattle.eb_cursor.proofs.Backwards.{stops}
use Rattle.eb_cursor.proofs.Runs.{look_begins, knows_kept, one_asked, last_asked, run_is_last}
use Rattle.eb_cursor.proofs.Tellings.{IsLater, gives_later}
use Rattle.eb_cursor.proofs.Windows.{behind_length}
use Rattle.eb_cursor.proofs.run.run_below.Goals as goal

-- ---- the run ends the window

pub ask_run-span-requires-clause-ready : goal.ask_run-span-requires-clause-ready
ask_run-span-requires-clause-ready g c = let r = c.requires.ready in
    let b = look_begins (gives r.0) r.1 r.2 c.args.cursors.now c.args.run c.args.end r.3 c.args.known.now r.6 r.5 r.7 r.8 in
    (r.0, r.1, r.2, c.args.end, r.4, r.6, b.0, b.1)

pub before_run-requires-clause-ready : goal.before_run-requires-clause-ready
before_run-requires-clause-ready g c = let r = c.requires.ready in
    let b = look_begins (gives r.0) r.1 r.2 c.args.cursors.now c.args.run c.args.end r.3 c.args.known.now r.6 r.5 r.7 r.8 in
    let x = (c.ask_run-span.ensures.found r.1 r.2 c.args.end r.6).told r.0 r.4 (b.0, b.1) in
    let all : c.args.run.to ≡ length r.2 = c.if-run-left.true ∙ behind_length (gives r.0) r.1 r.2 c.args.cursors.now r.3 r.7 in
    (x.0, r.1, r.2, c.args.end, x.1, r.6, run_is_last r.1 r.2 c.args.run c.ask_run-span.result.last c.args.end r.6 all x.4.1, x.4)

pub returns-then-run-left-clause-found : goal.returns-then-run-left-clause-found
returns-then-run-left-clause-found g c = λ docs ts last h run. record {
  told = λ m st p.
      let b = look_begins (gives m) docs ts c.args.cursors.now c.args.run c.args.end last c.args.known.now run h p.0 p.1 in
      let x = (c.ask_run-span.ensures.found docs ts c.args.end run).told m st (b.0, b.1) in
      let all : c.args.run.to ≡ length ts = c.if-run-left.true ∙ behind_length (gives m) docs ts c.args.cursors.now last p.0 in
      let y = (c.before_run.ensures.found docs ts c.args.end run (run_is_last docs ts c.args.run c.ask_run-span.result.last c.args.end run all x.4.1)).told x.0 x.1 x.4 in
      (y.0, y.1, later_on m x.0 y.0 x.2 y.2, g.met.P.Port.keeps_on _ _ _ m x.0 y.0 x.3 y.3, y.4);
}

-- ---- terms stand after it

pub overflow_sub-left : goal.overflow_sub-left
overflow_sub-left g c = let r = c.requires.ready in omega (arith, r.6.several, r.6.within, behind_length (gives r.0) r.1 r.2 c.args.cursors.now r.3 r.7)

pub ask_down-last-requires-clause-ready : goal.ask_down-last-requires-clause-ready
ask_down-last-requires-clause-ready g c = let r = c.requires.ready in
    let b = look_begins (gives r.0) r.1 r.2 c.args.cursors.now c.args.run c.args.end r.3 c.args.known.now r.6 r.5 r.7 r.8 in
    (r.0, r.1, r.2, c.args.end, r.4, b.0)

pub ask_down-asked-requires-clause-ready : goal.ask_down-asked-requires-clause-ready
ask_down-asked-requires-clause-ready g c = let r = c.requires.ready in
    let b = look_begins (gives r.0) r.1 r.2 c.args.cursors.now c.args.run c.args.end r.3 c.args.known.now r.6 r.5 r.7 r.8 in
    let x = (c.ask_down-last.ensures.found r.1 r.2 c.args.end).told r.0 r.4 b.0 in
    (x.0, r.1, r.2, c.args.end, x.1, x.4)

pub returns-then-asked-run-clause-found : goal.returns-then-asked-run-clause-found
returns-then-asked-run-clause-found g c = λ docs ts last h run. record {
  told = λ m st p.
      let n : ℕ = length c.args.cursors.now in
      let b = look_begins (gives m) docs ts c.args.cursors.now c.args.run c.args.end last c.args.known.now run h p.0 p.1 in
      let x = (c.ask_down-last.ensures.found docs ts c.args.end).told m st b.0 in
      let y = (c.ask_down-asked.ensures.found docs ts c.args.end).told x.0 x.1 x.4 in
      let w : IsLater m x.0 = record { is = g.met.P.Port.lawful _ m st; later = x.2 } in
      let v : IsLater x.0 y.0 = record { is = g.met.P.Port.lawful _ x.0 x.1; later = y.2 } in
      let few = behind_length (gives m) docs ts c.args.cursors.now last p.0 in
      let some : 0 < n = omega (arith, few, run.several, run.within) in
      let low : n - 1 ≤ c.ask_down-last.result.left = c.ask_down-last.ensures.low (omega arith) in
      let before : c.args.run.to ≤ c.ask_down-last.result.left = omega (arith, low, run.within, few, c.if-run-left.false) in
      let less = one_asked docs ts n c.ask_down-last.result.left c.ask_down-last.result.first c.args.end few some c.ask_down-last.ensures.falls x.4.1 c.ask_down-last.ensures.stops in
      let own = last_asked docs ts n c.ask_down-last.result.left c.ask_down-last.result.first c.args.end few some c.ask_down-last.ensures.falls low x.4.1 c.ask_down-last.ensures.stops in
      let s = stops docs ts c.ask_down-asked.result.left c.args.end c.ask_down-asked.result.first c.ask_down-last.result.first c.args.limit c.saturating_sub-floor.result
      (omega (arith, less, c.ask_down-asked.ensures.falls, few)) y.4.1 c.saturating_sub-floor.ensures (λ any more. c.ask_down-asked.ensures.stops c.if-asked-run.true more) in
      let k = knows_kept (gives m) (gives x.0) (gives_later m x.0 w) docs ts c.args.cursors.now c.ask_down-last.new.cursors c.args.run c.args.end last c.ask_down-last.result.left n c.args.known.now
      run c.ask_down-last.ensures.kept before h p.1 in (
        y.0,
        y.1,
        later_on m x.0 y.0 x.2 y.2,
        g.met.P.Port.keeps_on _ _ _ m x.0 y.0 x.3 y.3,
        (
          (omega (arith, s.0, c.first_at_most.ensures), λ near. c.first_at_most.ensures ∙ s.1 (omega (arith, near, c.first_at_most.ensures)), own, y.4.0),
          knows_kept (gives x.0) (gives y.0) (gives_later x.0 y.0 v) docs ts c.ask_down-last.new.cursors c.ask_down-asked.new.cursors c.args.run c.args.end c.args.end
              c.ask_down-asked.result.left c.ask_down-last.result.left c.args.known.now run c.ask_down-asked.ensures.kept (c.ask_down-asked.ensures.low before) (omega arith) k,
        ),
      );
}

pub ask_run-span-requires-2-clause-left : goal.ask_run-span-requires-2-clause-left
ask_run-span-requires-2-clause-left g c = let r = c.requires.ready in
    let few = behind_length (gives r.0) r.1 r.2 c.args.cursors.now r.3 r.7 in
    let low = c.ask_down-last.ensures.low (omega arith) in
    let before : c.args.run.to ≤ c.ask_down-last.result.left = omega (arith, low, r.6.within, few, c.if-run-left.false) in
    omega (arith, c.ask_down-asked.ensures.low before, c.if-asked-run.false)

pub ask_run-span-requires-2-clause-within : goal.ask_run-span-requires-2-clause-within
ask_run-span-requires-2-clause-within g c = let r = c.requires.ready in
    omega (arith, r.6.within, behind_length (gives r.0) r.1 r.2 c.args.cursors.now r.3 r.7, c.ask_down-last.auto.cursors, c.ask_down-asked.auto.cursors)

pub ask_run-span-requires-2-clause-ready : goal.ask_run-span-requires-2-clause-ready
ask_run-span-requires-2-clause-ready g c = let r = c.requires.ready in
    let n : ℕ = length c.args.cursors.now in
    let b = look_begins (gives r.0) r.1 r.2 c.args.cursors.now c.args.run c.args.end r.3 c.args.known.now r.6 r.5 r.7 r.8 in
    let x = (c.ask_down-last.ensures.found r.1 r.2 c.args.end).told r.0 r.4 b.0 in
    let y = (c.ask_down-asked.ensures.found r.1 r.2 c.args.end).told x.0 x.1 x.4 in
    let w : IsLater r.0 x.0 = record { is = g.met.P.Port.lawful _ r.0 r.4; later = x.2 } in
    let v : IsLater x.0 y.0 = record { is = g.met.P.Port.lawful _ x.0 x.1; later = y.2 } in
    let few = behind_length (gives r.0) r.1 r.2 c.args.cursors.now r.3 r.7 in
    let low : n - 1 ≤ c.ask_down-last.result.left = c.ask_down-last.ensures.low (omega arith) in
    let before : c.args.run.to ≤ c.ask_down-last.result.left = omega (arith, low, r.6.within, few, c.if-run-left.false) in
    let k = knows_kept (gives r.0) (gives x.0) (gives_later r.0 x.0 w) r.1 r.2 c.args.cursors.now c.ask_down-last.new.cursors c.args.run c.args.end r.3 c.ask_down-last.result.left n c.args.known.now
    r.6 c.ask_down-last.ensures.kept before r.5 r.8 in
    let l = knows_kept (gives x.0) (gives y.0) (gives_later x.0 y.0 v) r.1 r.2 c.ask_down-last.new.cursors c.ask_down-asked.new.cursors c.args.run c.args.end c.args.end
    c.ask_down-asked.result.left c.ask_down-last.result.left c.args.known.now r.6 c.ask_down-asked.ensures.kept (c.ask_down-asked.ensures.low before) (omega arith) k in
    (y.0, r.1, r.2, c.args.end, y.1, r.6, y.4, l)

pub before_run-requires-2-clause-within : goal.before_run-requires-2-clause-within
before_run-requires-2-clause-within g c = let r = c.requires.ready in
    omega (arith, r.6.within, behind_length (gives r.0) r.1 r.2 c.args.cursors.now r.3 r.7, c.ask_down-last.auto.cursors, c.ask_down-asked.auto.cursors, c.ask_run-span-2.auto.cursors)

pub before_run-requires-2-clause-ready : goal.before_run-requires-2-clause-ready
before_run-requires-2-clause-ready g c = let r = c.requires.ready in
    let n : ℕ = length c.args.cursors.now in
    let b = look_begins (gives r.0) r.1 r.2 c.args.cursors.now c.args.run c.args.end r.3 c.args.known.now r.6 r.5 r.7 r.8 in
    let x = (c.ask_down-last.ensures.found r.1 r.2 c.args.end).told r.0 r.4 b.0 in
    let y = (c.ask_down-asked.ensures.found r.1 r.2 c.args.end).told x.0 x.1 x.4 in
    let w : IsLater r.0 x.0 = record { is = g.met.P.Port.lawful _ r.0 r.4; later = x.2 } in
    let v : IsLater x.0 y.0 = record { is = g.met.P.Port.lawful _ x.0 x.1; later = y.2 } in
    let few = behind_length (gives r.0) r.1 r.2 c.args.cursors.now r.3 r.7 in
    let some : 0 < n = omega (arith, few, r.6.several, r.6.within) in
    let low : n - 1 ≤ c.ask_down-last.result.left = c.ask_down-last.ensures.low (omega arith) in
    let before : c.args.run.to ≤ c.ask_down-last.result.left = omega (arith, low, r.6.within, few, c.if-run-left.false) in
    let own = last_asked r.1 r.2 n c.ask_down-last.result.left c.ask_down-last.result.first c.args.end few some c.ask_down-last.ensures.falls low x.4.1 c.ask_down-last.ensures.stops in
    let k = knows_kept (gives r.0) (gives x.0) (gives_later r.0 x.0 w) r.1 r.2 c.args.cursors.now c.ask_down-last.new.cursors c.args.run c.args.end r.3 c.ask_down-last.result.left n c.args.known.now
    r.6 c.ask_down-last.ensures.kept before r.5 r.8 in
    let l = knows_kept (gives x.0) (gives y.0) (gives_later x.0 y.0 v) r.1 r.2 c.ask_down-last.new.cursors c.ask_down-asked.new.cursors c.args.run c.args.end c.args.end
    c.ask_down-asked.result.left c.ask_down-last.result.left c.args.known.now r.6 c.ask_down-asked.ensures.kept (c.ask_down-asked.ensures.low before) (omega arith) k in
    let z = (c.ask_run-span-2.ensures.found r.1 r.2 c.args.end r.6).told y.0 y.1 (y.4, l) in
    (z.0, r.1, r.2, c.args.end, z.1, r.6, own, z.4)

pub returns-clause-found : goal.returns-clause-found
returns-clause-found g c = λ docs ts last h run. record {
  told = λ m st p.
      let n : ℕ = length c.args.cursors.now in
      let b = look_begins (gives m) docs ts c.args.cursors.now c.args.run c.args.end last c.args.known.now run h p.0 p.1 in
      let x = (c.ask_down-last.ensures.found docs ts c.args.end).told m st b.0 in
      let y = (c.ask_down-asked.ensures.found docs ts c.args.end).told x.0 x.1 x.4 in
      let w : IsLater m x.0 = record { is = g.met.P.Port.lawful _ m st; later = x.2 } in
      let v : IsLater x.0 y.0 = record { is = g.met.P.Port.lawful _ x.0 x.1; later = y.2 } in
      let few = behind_length (gives m) docs ts c.args.cursors.now last p.0 in
      let some : 0 < n = omega (arith, few, run.several, run.within) in
      let low : n - 1 ≤ c.ask_down-last.result.left = c.ask_down-last.ensures.low (omega arith) in
      let before : c.args.run.to ≤ c.ask_down-last.result.left = omega (arith, low, run.within, few, c.if-run-left.false) in
      let own = last_asked docs ts n c.ask_down-last.result.left c.ask_down-last.result.first c.args.end few some c.ask_down-last.ensures.falls low x.4.1 c.ask_down-last.ensures.stops in
      let k = knows_kept (gives m) (gives x.0) (gives_later m x.0 w) docs ts c.args.cursors.now c.ask_down-last.new.cursors c.args.run c.args.end last c.ask_down-last.result.left n c.args.known.now
      run c.ask_down-last.ensures.kept before h p.1 in
      let l = knows_kept (gives x.0) (gives y.0) (gives_later x.0 y.0 v) docs ts c.ask_down-last.new.cursors c.ask_down-asked.new.cursors c.args.run c.args.end c.args.end
      c.ask_down-asked.result.left c.ask_down-last.result.left c.args.known.now run c.ask_down-asked.ensures.kept (c.ask_down-asked.ensures.low before) (omega arith) k in
      let z = (c.ask_run-span-2.ensures.found docs ts c.args.end run).told y.0 y.1 (y.4, l) in
      let e = (c.before_run-2.ensures.found docs ts c.args.end run own).told z.0 z.1 z.4 in
      let xy = later_on m x.0 y.0 x.2 y.2 in
      let xz = later_on m y.0 z.0 xy z.2 in (
        e.0,
        e.1,
        later_on m z.0 e.0 xz e.2,
        g.met.P.Port.keeps_on _ _ _ m z.0 e.0 (g.met.P.Port.keeps_on _ _ _ m y.0 z.0 (g.met.P.Port.keeps_on _ _ _ m x.0 y.0 x.3 y.3) z.3) e.3,
        e.4,
      );
}
