use Rattle.std.specs.VecDeque.{deque_len}
use Rattle.eb_lines.specs.Programs.{WorksOn}
use Rattle.run_with_workers.specs.Serving.{HasServed}
use Rattle.run_with_workers.proofs.serving.Serving.print_ready.Given as goal

abbrev pub invariant-ready : goal.invariant-ready
invariant-ready g l = WorksOn (HasServed g.O.Office.holds g.O.Office.asked) l.initial.self l.self l.initial.text.items l.text.items

abbrev pub decreases-ready : goal.decreases-ready
decreases-ready g l = deque_len l.self.waiting
