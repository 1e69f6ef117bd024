use Rattle.eb_desk.specs.Rule.{asked_pair, IsAsked, IsGiven}
use Rattle.eb_desk.proofs.Books.{worker_took, worker_takes}
use Rattle.eb_desk.proofs.worker.Worker.sure_take.Goals as goal

pub invariant_of-self : goal.invariant_of-self
invariant_of-self g c =
    worker_took (asked_pair g.J.Job.pair) g.J.Job.answer_pair (IsAsked g.J.Job.pair g.J.Job.made) (IsGiven g.J.Job.answer_made)
    _ _ _ _ c.self.invariant c.sure_task.ensures.pass.2 c.sure_task.ensures.moved

pub returns : goal.returns
returns g c =
    worker_takes (asked_pair g.J.Job.pair) g.J.Job.answer_pair (IsAsked g.J.Job.pair g.J.Job.made) (IsGiven g.J.Job.answer_made)
    c.sure_task.result c.self.inside.jobs c.sure_task.new.pass c.self.inside.answers _ c.self.view_is c.self.invariant c.sure_task.ensures.pass.0 c.sure_task.ensures.moved
