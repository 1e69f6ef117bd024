use Rattle.std.proofs.Common.{refl, arith}
use Rattle.run_ahead.proofs.Waitings.{stays_on, waits_few, waits_fit, run_worked}
use Rattle.run_ahead.proofs.ahead.work_first.Goals as goal

pub work_run-requires-clause-number : goal.work_run-requires-clause-number
work_run-requires-clause-number g c = waits_few g.P.Store.other g.P.Store.holds c.args.ahead.now c.requires.state c.args.tasks.now c.requires.waits.0 c.requires.waits.1

pub returns-in_err-work_run-clause-on : goal.returns-in_err-work_run-clause-on
returns-in_err-work_run-clause-on g c = stays_on g.P.Store.other g.P.Store.holds c.args.ahead.now _ _ _ refl c.requires.state refl refl c.in_err-work_run.ensures.err

pub returns-clause-on : goal.returns-clause-on
returns-clause-on g c =
    run_worked g.P.Store.other g.P.Store.holds c.args.ahead.now c.requires.state c.args.tasks.now c.requires.waits.0 c.requires.waits.1 _ _ _ (refl, refl) refl c.in_ok-work_run.ensures.ok

pub overflow_add-ahead : goal.overflow_add-ahead
overflow_add-ahead g c =
    let few = waits_fit g.P.Store.other g.P.Store.holds c.args.ahead.now c.requires.state c.args.tasks.now c.requires.waits.0 c.requires.waits.1 in record { fits = omega (arith, few) }
