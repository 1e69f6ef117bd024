use Rattle.eb_lines.proofs.Results.{ok_on}
use Rattle.eb_run.proofs.Runnings.{on_beside}
use Rattle.eb_run.proofs.Runs.{run_body}
use Rattle.eb_run.proofs.program.RunProgramLineProgram.settle_all.Goals as goal

pub returns-clause-on : goal.returns-clause-on
returns-clause-on g c = λ a given so_far h. on_beside _ c.args.self.now.running c.worker.new.arg2 _ _ (h.0.on _ _ _ _ _ c.worker.ensures) a given so_far h

pub returns-clause-printed : goal.returns-clause-printed
returns-clause-printed g c = ok_on c.worker.result (c.requires.3.0.none _ _ _ _ _ c.worker.ensures) (λ none a given so_far h. run_body c.worker.new.arg2 a given so_far h.1 none)
