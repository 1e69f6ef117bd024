use Rattle.std.proofs.Common.{◌<◌, length, arith, ◌∙◌}
use Rattle.eb_cursor.specs.Lists.{gives}
use Rattle.eb_cursor.proofs.Backwards.{begins, stops}
use Rattle.eb_cursor.proofs.Tellings.{told_on}
use Rattle.eb_cursor.proofs.Windows.{behind_length}
use Rattle.eb_cursor.proofs.window.many_below.Goals as goal

pub ask_down-asked-requires-clause-ready : goal.ask_down-asked-requires-clause-ready
ask_down-asked-requires-clause-ready g c = let r = c.requires.ready in
    let a = (c.last_below-last.ensures.found r.1 r.2 r.3 r.5).told r.0 r.4 r.6 in (
      a.0,
      r.1,
      r.2,
      c.args.end,
      a.1,
      (a.4.1, begins (gives a.0) r.1 r.2 c.last_below-last.new.cursors c.args.end c.last_below-last.result (omega (arith, c.requires.some, c.last_below-last.auto.cursors)) a.4.1 a.4.0),
    )

pub returns-clause-found : goal.returns-clause-found
returns-clause-found g c = λ docs us last h.
    told_on g.met.P.Port.lawful g.met.P.Port.keeps_on (c.last_below-last.ensures.found docs us last h) (c.ask_down-asked.ensures.found docs us c.args.end)
    (λ m r. r)
    (λ l m w r x. (
      x.1,
      begins (gives m) docs us c.last_below-last.new.cursors c.args.end c.last_below-last.result (omega (arith, c.requires.some, c.last_below-last.auto.cursors)) x.1 x.0,
    ))
    (λ l m n w v r x y.
    let within : c.ask_down-asked.result.left < length us =
    omega (arith, c.requires.some, c.last_below-last.auto.cursors, c.ask_down-asked.ensures.falls, behind_length (gives m) docs us c.last_below-last.new.cursors c.args.end x.1) in
    let s = stops docs us c.ask_down-asked.result.left c.args.end c.ask_down-asked.result.first c.last_below-last.result c.args.limit c.saturating_sub.result
    within y.1 c.saturating_sub.ensures c.ask_down-asked.ensures.stops in
    (omega (arith, s.0, c.first_at_most.ensures), λ near. c.first_at_most.ensures ∙ s.1 (omega (arith, near, c.first_at_most.ensures)), x.0, y.0))
