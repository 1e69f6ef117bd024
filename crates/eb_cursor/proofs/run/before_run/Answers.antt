use Rattle.std.proofs.Common.{◌<◌, length, arith, ◌∙◌}
use Rattle.eb_cursor.specs.Lists.{gives}
use Rattle.eb_cursor.proofs.Backwards.{stops}
use Rattle.eb_cursor.proofs.Runs.{run_told}
use Rattle.eb_cursor.proofs.Tellings.{told_as}
use Rattle.eb_cursor.proofs.run.before_run.Goals as goal

pub returns-clause-found : goal.returns-clause-found
returns-clause-found g c = λ docs ts end r e.
    told_as g.met.P.Port.lawful (c.ask_down-asked.ensures.found docs ts end) (λ m p. (p.2, p.0))
    (λ m n w p x.
    let within : c.ask_down-asked.result.left < length ts = omega (arith, c.ask_down-asked.ensures.falls, r.several, r.within) in
    let s = stops docs ts c.ask_down-asked.result.left end c.ask_down-asked.result.first c.args.last c.args.limit c.saturating_sub.result
    within x.1 c.saturating_sub.ensures c.ask_down-asked.ensures.stops in (
      (omega (arith, s.0, c.first_at_most.ensures), λ near. c.first_at_most.ensures ∙ s.1 (omega (arith, near, c.first_at_most.ensures)), e, x.0),
      (run_told (gives n) docs ts c.ask_down-asked.new.cursors c.args.run end c.args.span r p.0 p.1 x.0).3,
    ))
