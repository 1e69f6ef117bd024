use Rattle.std.proofs.Common.{sym, ◌∙◌}
use Rattle.run_ahead.proofs.RunTasks.{run_next}
use Rattle.run_ahead.proofs.reading.run_length.Goals as goal

pub loop-at-preserved : goal.loop-at-preserved
loop-at-preserved c =
    run_next c.args.tasks.now c.loop-at.at c.index-tasks-at.result c.loop-at-test.true c.index-tasks-at.is c.loop-at.invariant (sym c.is_added.ensures ∙ c.if-not-is_added.false)
