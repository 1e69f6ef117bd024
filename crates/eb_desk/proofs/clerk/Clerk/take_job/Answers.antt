use Rattle.eb_desk.specs.Rule.{asked_pair, IsAsked, IsGiven}
use Rattle.eb_desk.proofs.Books.{clerk_took, clerk_takes}
use Rattle.eb_desk.proofs.clerk.Clerk.take_job.Goals as goal

pub invariant_of-self : goal.invariant_of-self
invariant_of-self g c =
    clerk_took (asked_pair g.J.Job.pair) g.J.Job.answer_pair (IsAsked g.J.Job.pair g.J.Job.made) (IsGiven g.J.Job.answer_made)
    _ _ _ _ c.self.invariant c.take_job.ensures.pass.2 c.take_job.ensures.moved

pub returns : goal.returns
returns g c =
    clerk_takes (asked_pair g.J.Job.pair) g.J.Job.answer_pair (IsAsked g.J.Job.pair g.J.Job.made) (IsGiven g.J.Job.answer_made)
    c.take_job.result c.self.inside.jobs c.take_job.new.pass c.self.inside.answers _ c.self.view_is c.self.invariant c.take_job.ensures.pass.0 c.take_job.ensures.moved
