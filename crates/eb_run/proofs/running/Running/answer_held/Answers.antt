use Rattle.eb_lines.proofs.Results.{ok_on}
use Rattle.eb_lines.proofs.Runs.{stays}
use Rattle.eb_run.specs.Running.{HasRun}
use Rattle.eb_run.proofs.Runnings.{none_waits}
use Rattle.eb_run.proofs.running.Running.answer_held.Goals as goal

pub returns-then-has_query-clause-on : goal.returns-then-has_query-clause-on
returns-then-has_query-clause-on g c = c.requires.worker.on _ _ _ _ _ c.worker.ensures

pub returns-then-has_query-clause-answered : goal.returns-then-has_query-clause-answered
returns-then-has_query-clause-answered g c = ok_on c.worker.result (c.requires.worker.none _ _ _ _ _ c.worker.ensures) (λ e. none_waits c.worker.new.arg2 e)

pub returns-else-has_query-clause-on : goal.returns-else-has_query-clause-on
returns-else-has_query-clause-on g c = stays HasRun c.args.self.now c.args.text.now.items
