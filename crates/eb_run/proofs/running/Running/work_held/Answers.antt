use Rattle.std.proofs.Common.{refl, ap}
use Rattle.eb_engine.specs.Tokens.{HistoryToken}
use Rattle.eb_lines.proofs.Results.{err_on}
use Rattle.eb_run.proofs.Runnings.{held_on, unchanged_on, with_parts}
use Rattle.eb_run.proofs.running.Running.work_held.Goals as goal

pub returns-clause-on : goal.returns-clause-on
returns-clause-on g c =
    let old = c.args.self.now in
    let new = with_parts old c.step_behind.new.writer c.step_behind.new.converter c.step_behind.new.self old.number in
    let e = c.step_behind.ensures in
    held_on old new c.args.text.now.items c.step_behind.new.text.items refl refl refl e.writer e.converter refl c.step_behind.result e.ok e.held
    (err_on c.step_behind.result e.err
    (λ x. unchanged_on old new c.args.text.now.items c.step_behind.new.text.items refl refl refl e.writer e.converter refl x.0 (ap (λ (t : HistoryToken). t.docs) x.1) x.3))
