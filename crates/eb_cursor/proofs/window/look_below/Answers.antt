use Rattle.eb_cursor.specs.Lists.{gives}
use Rattle.eb_cursor.proofs.Runs.{no_run_known}
use Rattle.eb_cursor.proofs.Tellings.{told_as}
use Rattle.eb_cursor.proofs.window.look_below.Goals as goal

pub returns-in-None-clause-found : goal.returns-in-None-clause-found
returns-in-None-clause-found g c = λ docs ts last h run. told_as g.met.P.Port.lawful (c.span_below.ensures.found docs ts last h) (λ m p. p.0)
    (λ m n w p x. (x, no_run_known (gives n) docs ts c.span_below.new.cursors c.args.run c.args.end c.args.known.now c.in-None.is))
