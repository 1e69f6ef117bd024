use Rattle.std.proofs.Common.{[], ◌∷◌, refl, arith, sym}
use Rattle.std.proofs.lemmas.Option.{get_or_from_slice_get}
use Rattle.run_ahead.specs.Tasks.{line_of}
use Rattle.run_ahead.proofs.Waitings.{stays_on, one_worked, waits_fit, first_task, low}
use Rattle.run_ahead.proofs.ahead.Ahead.work_one.Goals as goal

pub get-line-requires : goal.get-line-requires
get-line-requires g c = low g.S.Store.other g.S.Store.holds c.args.self.now c.requires.state c.args.task.now c.requires.waits.0 c.requires.waits.1

pub work_line-requires-clause-task : goal.work_line-requires-clause-task
work_line-requires-clause-task g c = first_task g.S.Store.other g.S.Store.holds c.args.self.now c.requires.state c.args.task.now c.requires.waits.0 c.requires.waits.1
    (line_of c.get-line.result) c.get-line.ensures

pub overflow_add-self : goal.overflow_add-self
overflow_add-self g c =
    let few = waits_fit g.S.Store.other g.S.Store.holds c.args.self.now c.requires.state (c.args.task.now ∷ []) c.requires.waits.0 c.requires.waits.1 in record { fits = omega (arith, few) }

pub returns-in_err-work_line-clause-on : goal.returns-in_err-work_line-clause-on
returns-in_err-work_line-clause-on g c = stays_on g.S.Store.other g.S.Store.holds c.args.self.now _ _ _ refl c.requires.state refl refl c.in_err-work_line.ensures.err

pub returns-clause-on : goal.returns-clause-on
returns-clause-on g c =
    one_worked g.S.Store.other g.S.Store.holds c.args.self.now _ c.requires.state c.args.task.now c.requires.waits.0 c.requires.waits.1 _ _ (line_of c.get-line.result)
    (sym (get_or_from_slice_get c.args.self.now.held c.args.self.now.worked _ _ c.get-line.ensures)) (refl, refl) refl c.in_ok-work_line.ensures.ok
