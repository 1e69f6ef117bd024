use Rattle.run_with_workers.specs.Serving.{IsFurther}
use Rattle.run_with_workers.proofs.serving.Serving.take_all_there.Given as goal

abbrev pub invariant-loop : goal.invariant-loop
invariant-loop g l = IsFurther g.O.Office.holds g.O.Office.asked l.initial.self l.self
