use Rattle.eb_desk.specs.Rule.{asked_pair, IsAsked}
use Rattle.eb_desk.proofs.Law.{once}
use Rattle.eb_desk.proofs.laws.jobs_are_taken_once.Goals as goal

pub returns : goal.returns
returns g c = once (asked_pair g.J.Job.pair) (IsAsked g.J.Job.pair g.J.Job.made)
