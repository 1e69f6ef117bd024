use Rattle.eb_lines.specs.Programs.{WorksOn}
use Rattle.run_with_workers.specs.Serving.{HasServed}
use Rattle.run_with_workers.proofs.serving.Serving.wait_down.Given as goal

abbrev pub invariant-loop : goal.invariant-loop
invariant-loop g l = WorksOn (HasServed g.O.Office.holds g.O.Office.asked) l.initial.self l.self l.initial.text.items l.text.items
