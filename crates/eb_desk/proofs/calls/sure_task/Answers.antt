use Rattle.eb_desk.specs.Rule.{asked_pair, IsAsked}
use Rattle.eb_desk.proofs.JobsKept.{takes_task}
use Rattle.eb_desk.proofs.calls.sure_task.Goals as goal

pub pop_as-requires-clause-rule : goal.pop_as-requires-clause-rule
pop_as-requires-clause-rule g c = let r = c.requires.rule in (takes_task (asked_pair g.J.Job.pair) (IsAsked g.J.Job.pair g.J.Job.made) _ _ r.0 r.1 r.2, λ items views h e. tt)
