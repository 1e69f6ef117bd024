use Rattle.eb_run.specs.Bench.{HasCounted, lines_until}
use Rattle.eb_run.proofs.bench.count_made.Given as goal

abbrev pub invariant-loop-number : goal.invariant-loop-number
invariant-loop-number g l = HasCounted l.bench (lines_until l.fn.start l.fn.docs l.number)
