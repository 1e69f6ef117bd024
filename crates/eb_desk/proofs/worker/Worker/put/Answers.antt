use Rattle.std.proofs.Common.{ℕ, List, refl, sym, ◌∙◌, subst}
use Rattle.crossbeam_queue.specs.Passes.{view}
use Rattle.eb_desk.specs.Desk.{WorkerBook, worker_home}
use Rattle.eb_desk.specs.Rule.{asked_pair, IsAsked, IsGiven}
use Rattle.eb_desk.specs.Rule.{hand_of}
use Rattle.eb_desk.proofs.Books.{at_home, worker_permit, now_known, worker_is, worker_put}
use Rattle.eb_desk.proofs.worker.Worker.put.Goals as goal

pub take_permit-requires-clause-home : goal.take_permit-requires-clause-home
take_permit-requires-clause-home g c =
    (_, at_home _ _ _ c.self.invariant.answers)

pub take_permit-requires-clause-permit : goal.take_permit-requires-clause-permit
take_permit-requires-clause-permit g c =
    worker_permit (asked_pair g.J.Job.pair) g.J.Job.answer_pair (IsAsked g.J.Job.pair g.J.Job.made) (IsGiven g.J.Job.answer_made)
    _ _ _ _ (g.J.Job.answer_pair c.args.answer) c.self.view_is c.self.invariant c.requires.permit

pub put_answer-requires-clause-rule : goal.put_answer-requires-clause-rule
put_answer-requires-clause-rule g c =
    let is = c.self.invariant in
    let made = subst (λ (o : WorkerBook (List ℕ)). g.J.Job.answer_made o.home c.args.answer) (sym c.self.view_is) c.requires.made in
    let known = now_known (worker_home c.args.self.now) (g.J.Job.answer_pair c.args.answer) c.args.permit (hand_of (view c.self.inside.answers)).known c.requires.permit in
    (_, _, c.take_permit.ensures.moved _ _ is.answers, refl, made, known)

pub invariant_of-self : goal.invariant_of-self
invariant_of-self g c =
    let is = c.self.invariant in
    let put = c.put_answer.ensures in
    let took = c.take_permit.ensures in
    worker_is (asked_pair g.J.Job.pair) g.J.Job.answer_pair (IsAsked g.J.Job.pair g.J.Job.made) (IsGiven g.J.Job.answer_made)
    _ _ _ _ _ _ _ _ is refl (put.pass.2 ∙ took.pass.2) (put.pass.0 ∙ took.pass.0) is.jobs (put.moved _ _ (took.moved _ _ is.answers))

pub returns : goal.returns
returns g c =
    let is = c.self.invariant in
    let put = c.put_answer.ensures in
    let took = c.take_permit.ensures in
    worker_put (asked_pair g.J.Job.pair) g.J.Job.answer_pair (IsAsked g.J.Job.pair g.J.Job.made) (IsGiven g.J.Job.answer_made)
    c.self.inside.jobs c.self.inside.answers c.put_answer.new.pass _ (g.J.Job.answer_pair c.args.answer) _ c.self.view_is (put.pass.0 ∙ took.pass.0) (put.moved _ _ (took.moved _ _ is.answers))
