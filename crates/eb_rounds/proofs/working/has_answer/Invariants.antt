use Rattle.std.proofs.Common.{◌≡◌, drop}
use Rattle.std.specs.List.{list_any}
use Rattle.eb_rounds.specs.Works.{is_answer}
use Rattle.eb_rounds.proofs.working.has_answer.Given as goal

abbrev pub invariant-loop-task : goal.invariant-loop-task
invariant-loop-task l = list_any is_answer l.tasks ≡ list_any is_answer (drop l.task-index l.tasks)
