use Rattle.eb_lines.proofs.Results.{err_on}
use Rattle.eb_lines.proofs.Runs.{stays_at}
use Rattle.run_store.specs.Answering.{HasAnswered}
use Rattle.run_store.proofs.answering.AnsweringLineProgram.take_long.Goals as goal

pub returns-clause-err : goal.returns-clause-err
returns-clause-err g c = err_on c.refuse.result c.refuse.ensures.err (λ e. stays_at (HasAnswered g.S.Store.other g.S.Store.holds) c.args.self.now c.refuse.new.self _ _ e.0 e.1)
