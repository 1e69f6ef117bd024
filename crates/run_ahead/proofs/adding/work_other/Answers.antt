use Rattle.eb_fields.specs.Dialect.{dialect_of}
use Rattle.std.proofs.Common.{Err, sym, ap, subst}
use Rattle.eb_base.specs.Query.{Tree}
use Rattle.eb_lines.specs.Reading.{query}
use Rattle.eb_lines.specs.Programs.{WorksOnGiven}
use Rattle.eb_lines.proofs.Results.{ok_on, err_on, err_any}
use Rattle.eb_lines.proofs.Runs.{stays, stays_at}
use Rattle.run_store.specs.Answering.{HasAnswered}
use Rattle.run_store.specs.Rules.{ReadsWith}
use Rattle.run_ahead.specs.declared.reading.Other.TheVariants.{Ask}
use Rattle.run_ahead.proofs.RunTasks.{reads_raw}
use Rattle.run_ahead.specs.declared.reading.Other.{Other}
use Rattle.run_ahead.specs.Tasks.{line_of, IsTaskOf}
use Rattle.run_ahead.proofs.adding.work_other.Goals as goal

pub returns-in_err-query-in-Ask-clause-err : goal.returns-in_err-query-in-Ask-clause-err
returns-in_err-query-in-Ask-clause-err g c = err_any c.from_residual.result (stays (HasAnswered g.P.Store.other g.P.Store.holds) c.args.answering.now c.args.text.now.items)

pub returns-in_ok-query-in-Ask-clause-ok : goal.returns-in_ok-query-in-Ask-clause-ok
returns-in_ok-query-in-Ask-clause-ok g c =
    let l = line_of c.args.line in
    let ns = dialect_of c.args.answering.now.dialect in
    let own = c.in-Ask.question in
    let read = reads_raw g.P.Store.other ns l (Err (Ask own)) (λ x. x) (subst (λ (o : Other). IsTaskOf ns l (Err o)) c.in-Ask.is c.requires.task) in
    let reads = subst (λ (t : Tree). ReadsWith g.P.Store.other ns l (query own.ask t)) (sym c.in_ok-query-in-Ask.ensures) read in
    ok_on c.answer.result c.answer.ensures.ok (λ takes. takes l reads)

pub returns-in_ok-query-in-Ask-clause-err : goal.returns-in_ok-query-in-Ask-clause-err
returns-in_ok-query-in-Ask-clause-err g c = err_on c.answer.result c.answer.ensures.err (λ e. stays_at (HasAnswered g.P.Store.other g.P.Store.holds) _ c.answer.new.self _ _ e.0 e.1)

pub returns-in-Refuse-clause-err : goal.returns-in-Refuse-clause-err
returns-in-Refuse-clause-err g c = err_on c.refuse.result c.refuse.ensures.err (λ e. stays_at (HasAnswered g.P.Store.other g.P.Store.holds) _ c.refuse.new.self _ _ e.0 e.1)

pub returns-in-Line-clause-ok : goal.returns-in-Line-clause-ok
returns-in-Line-clause-ok g c =
    let same = sym (ap line_of c.in-Line.is) in
    ok_on c.take_other.result c.take_other.ensures.ok
    (λ x. subst (λ l. WorksOnGiven (HasAnswered g.P.Store.other g.P.Store.holds) c.args.answering.now c.take_other.new.self c.args.text.now.items c.take_other.new.text.items l) same x)
