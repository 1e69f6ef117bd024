use Rattle.eb_lines.proofs.Results.{ok_on}
use Rattle.run_with_workers.proofs.Endings.{served_body}
use Rattle.run_with_workers.proofs.program.WorkersProgramLineProgram.settle_all.Goals as goal

pub returns-clause-printed : goal.returns-clause-printed
returns-clause-printed g c = ok_on c.settle_all.result c.settle_all.ensures.all
    (λ none rules given so_far h. served_body g.O.Office.holds g.O.Office.asked c.settle_all.new.self rules given so_far h none)
