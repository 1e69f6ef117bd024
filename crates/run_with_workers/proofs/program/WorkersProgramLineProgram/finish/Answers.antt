use Rattle.eb_lines.proofs.Runs.{finishes_within}
use Rattle.run_with_workers.specs.Serving.{HasServed}
use Rattle.run_with_workers.proofs.program.WorkersProgramLineProgram.finish.Goals as goal

pub returns-clause-ok : goal.returns-clause-ok
returns-clause-ok g c =
    finishes_within (HasServed g.O.Office.holds g.O.Office.asked) (λ p. p.serving) c.args.self.now _ _ _ c.args.text.now.items c.finish.new.text.items c.finish.result c.finish.ensures.ok
