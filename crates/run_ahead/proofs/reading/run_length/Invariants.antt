use Rattle.std.proofs.Common.{take}
use Rattle.run_ahead.specs.Tasks.{AreRun}
use Rattle.run_ahead.proofs.reading.run_length.Given as goal

abbrev pub invariant-loop-at : goal.invariant-loop-at
invariant-loop-at l = AreRun (take l.at l.tasks)
