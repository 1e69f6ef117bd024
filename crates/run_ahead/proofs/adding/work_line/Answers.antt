use Rattle.eb_lines.proofs.Results.{err_on}
use Rattle.eb_lines.proofs.Runs.{stays_at}
use Rattle.run_store.specs.Answering.{HasAnswered}
use Rattle.run_ahead.proofs.adding.work_line.Goals as goal

pub returns-in-Ok-clause-err : goal.returns-in-Ok-clause-err
returns-in-Ok-clause-err g c = err_on c.add.result c.add.ensures.err (λ e. stays_at (HasAnswered g.P.Store.other g.P.Store.holds) _ c.add.new.self _ _ e.0 e.1)
