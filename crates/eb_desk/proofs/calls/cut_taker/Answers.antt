use Rattle.eb_desk.specs.Rule.{asked_pair, IsAsked}
use Rattle.eb_desk.proofs.JobsKept.{splits_jobs}
use Rattle.eb_desk.proofs.calls.cut_taker.Goals as goal

pub another-requires-clause-rule : goal.another-requires-clause-rule
another-requires-clause-rule g c = splits_jobs (asked_pair g.J.Job.pair) (IsAsked g.J.Job.pair g.J.Job.made) _ _ _ c.requires.rule
