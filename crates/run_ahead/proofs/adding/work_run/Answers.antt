use Rattle.std.proofs.Common.{◌+◌, ◌++◌, length, refl, ap, ◌∙◌, arith}
use Rattle.run_store.proofs.Taking.{holding_of, keeps_on}
use Rattle.eb_lines.proofs.Results.{err_any}
use Rattle.run_ahead.specs.Tasks.{run_text, run_refused}
use Rattle.run_ahead.proofs.Running.{takes_run, holding_for, outcomes_many, refused_fit}
use Rattle.run_ahead.proofs.adding.work_run.Goals as goal

pub form-form-requires : goal.form-form-requires
form-form-requires g c = holding_of g.P.Store.other g.P.Store.holds c.args.answering.now c.requires.state

pub returns-in_err-reserve-clause-err : goal.returns-in_err-reserve-clause-err
returns-in_err-reserve-clause-err g c =
    err_any c.from_residual.result (keeps_on g.P.Store.other g.P.Store.holds c.args.answering.now c.args.answering.now _ _ refl (λ rules docs ws h. h) refl refl refl c.in_err-reserve.ensures.items)

pub place_all-requires : goal.place_all-requires
place_all-requires g c = c.requires.placing.may _ _ (holding_for g.P.Store.other g.P.Store.holds c.args.answering.now c.requires.state (length c.args.tasks.now) c.requires.number)

pub returns-in_err-refusals-clause-err : goal.returns-in_err-refusals-clause-err
returns-in_err-refusals-clause-err g c =
    err_any c.from_residual-in_err-refusals.result
    (keeps_on g.P.Store.other g.P.Store.holds c.args.answering.now _ _ _ refl (c.requires.placing.err _ _ _ _ c.in_err-refusals.ensures) refl refl refl c.in_ok-reserve.ensures.items)

pub put_run-refused-requires-clause-same : goal.put_run-refused-requires-clause-same
put_run-refused-requires-clause-same g c =
    ap length c.as_slice.ensures.value
    ∙ outcomes_many g.P.Store.other g.P.Store.holds c.args.answering.now c.requires.state c.place_all.new.arg2 c.args.tasks.now c.in_ok-refusals.refusals.items
    (c.requires.placing.ok _ _ _ _ c.in_ok-refusals.ensures)

pub overflow_add-answering-2 : goal.overflow_add-answering-2
overflow_add-answering-2 g c =
    let fit = refused_fit g.P.Store.other g.P.Store.holds c.args.answering.now c.requires.state c.put_run-refused.result c.args.tasks.now c.as_slice.result.now c.put_run-refused.ensures.refused
    c.requires.number in
    omega (arith, fit)

pub returns-clause-ok : goal.returns-clause-ok
returns-clause-ok g c =
    let old = c.args.answering.now in
    let tasks = c.args.tasks.now in
    let rs = c.in_ok-refusals.refusals.items in
    let same = c.as_slice.ensures.value in
    takes_run g.P.Store.other g.P.Store.holds old _ c.form-form.result c.form-form.ensures (c.requires.tells old.store) tasks rs
    (c.requires.placing.ok _ _ _ _ c.in_ok-refusals.ensures) c.requires.run c.requires.number
    refl refl refl (ap (λ n. old.refused + n) (c.put_run-refused.ensures.refused ∙ ap (run_refused tasks) same)) c.args.text.now.items c.put_run-refused.new.text.items
    (c.put_run-refused.ensures.text ∙ (λ i. c.in_ok-reserve.ensures.items i ++ run_text c.form-form.result old.number tasks (same i)))
