use Rattle.std.proofs.Common.{sym, refl, subst}
use Rattle.eb_lines.proofs.Runs.{stays}
use Rattle.run_ahead.specs.Ahead.{HasHeld, AreWaiting}
use Rattle.run_ahead.proofs.Waitings.{all_worked}
use Rattle.run_ahead.proofs.ahead.work_held.Goals as goal

pub returns-in_err-tasks-clause-on : goal.returns-in_err-tasks-clause-on
returns-in_err-tasks-clause-on g c = stays (HasHeld g.P.Store.other g.P.Store.holds) c.args.ahead.now c.args.text.now.items

pub returns-clause-on : goal.returns-clause-on
returns-clause-on g c =
    let old = c.args.ahead.now in
    let tasks = c.as_slice.result.now in
    let waits = subst (λ ts. AreWaiting old ts) (sym c.as_slice.ensures.value) c.in_ok-tasks.ensures in
    all_worked g.P.Store.other g.P.Store.holds old c.work_all.new.ahead _ c.requires.state tasks waits c.in_ok-work_all.ensures.worked refl c.clear.ensures refl refl _ _
    c.work_all.ensures.on
