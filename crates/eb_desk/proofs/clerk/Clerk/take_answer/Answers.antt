use Rattle.eb_desk.specs.Rule.{asked_pair, IsAsked, IsGiven}
use Rattle.eb_desk.proofs.Books.{clerk_got, clerk_gets}
use Rattle.eb_desk.proofs.clerk.Clerk.take_answer.Goals as goal

pub invariant_of-self : goal.invariant_of-self
invariant_of-self g c =
    clerk_got (asked_pair g.J.Job.pair) g.J.Job.answer_pair (IsAsked g.J.Job.pair g.J.Job.made) (IsGiven g.J.Job.answer_made)
    _ _ _ _ c.self.invariant c.take_answer.ensures.pass.2 c.take_answer.ensures.pass.0 c.take_answer.ensures.moved

pub returns : goal.returns
returns g c =
    clerk_gets (asked_pair g.J.Job.pair) g.J.Job.answer_pair (IsAsked g.J.Job.pair g.J.Job.made) (IsGiven g.J.Job.answer_made)
    c.take_answer.result c.self.inside.jobs c.self.inside.answers c.take_answer.new.pass _ c.self.view_is c.self.invariant c.take_answer.ensures.pass.0 c.take_answer.ensures.moved
