use Rattle.std.proofs.Common.{◌≡◌, ◌*◌, ◌^◌, ◌≤◌, take}
use Rattle.std.specs.Prelude.{sum_by}
use Rattle.eb_rounds.specs.Works.{asked_need}
use Rattle.eb_rounds.proofs.working.needs_of_asked.Given as goal

abbrev pub invariant-loop-task : goal.invariant-loop-task
invariant-loop-task l = record {
  needs : l.needs ≡ sum_by asked_need (take l.task-index l.tasks);
  small : l.needs ≤ 2 ^ 40 * l.task-index;
}
