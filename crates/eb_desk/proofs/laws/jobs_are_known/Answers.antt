use Rattle.eb_desk.specs.Rule.{asked_pair, IsAsked}
use Rattle.eb_desk.proofs.Law.{was_put}
use Rattle.eb_desk.proofs.laws.jobs_are_known.Goals as goal

pub returns : goal.returns
returns g c = was_put (asked_pair g.J.Job.pair) (IsAsked g.J.Job.pair g.J.Job.made)
