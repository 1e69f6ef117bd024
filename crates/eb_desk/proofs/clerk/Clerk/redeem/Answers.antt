use Rattle.std.proofs.Common.{refl, ◌∙◌}
use Rattle.eb_desk.specs.Rule.{asked_pair, IsAsked, IsGiven}
use Rattle.eb_desk.proofs.Books.{at_home, clerk_permit, clerk_finds, clerk_is, clerk_same}
use Rattle.eb_desk.proofs.clerk.Clerk.redeem.Goals as goal

pub take_permit-requires-clause-home : goal.take_permit-requires-clause-home
take_permit-requires-clause-home g c =
    (_, at_home _ _ _ c.self.invariant.answers)

pub take_permit-requires-clause-permit : goal.take_permit-requires-clause-permit
take_permit-requires-clause-permit g c =
    clerk_permit (asked_pair g.J.Job.pair) g.J.Job.answer_pair (IsAsked g.J.Job.pair g.J.Job.made) (IsGiven g.J.Job.answer_made)
    _ _ _ _ c.requires.permit.0 c.self.view_is c.self.invariant c.requires.permit.1

pub learn_permits-requires-clause-rule : goal.learn_permits-requires-clause-rule
learn_permits-requires-clause-rule g c = (_, _, c.take_permit.ensures.moved _ _ c.self.invariant.answers)

pub invariant_of-self : goal.invariant_of-self
invariant_of-self g c =
    let is = c.self.invariant in
    let took = c.take_permit.ensures in
    let learned = c.learn_permits.ensures.pass in
    clerk_is (asked_pair g.J.Job.pair) g.J.Job.answer_pair (IsAsked g.J.Job.pair g.J.Job.made) (IsGiven g.J.Job.answer_made)
    _ _ _ _ _ _ _ _ _ is refl (learned.0.2 ∙ took.pass.2) (learned.0.0 ∙ took.pass.0) is.jobs (learned.1 ∙ took.moved _ _ is.answers)

pub returns-clause-same : goal.returns-clause-same
returns-clause-same g c =
    let took = c.take_permit.ensures in
    let learned = c.learn_permits.ensures.pass in
    clerk_same (asked_pair g.J.Job.pair) g.J.Job.answer_pair (IsAsked g.J.Job.pair g.J.Job.made) (IsGiven g.J.Job.answer_made)
    c.self.inside.jobs c.self.inside.answers c.take_permit.new.pass c.learn_permits.new.pass c.args.permit _ c.self.view_is c.self.invariant (learned.0.0 ∙ took.pass.0) took.moved learned.1

pub returns-clause-put : goal.returns-clause-put
returns-clause-put g c = λ p permit.
    clerk_finds (asked_pair g.J.Job.pair) g.J.Job.answer_pair (IsAsked g.J.Job.pair g.J.Job.made) (IsGiven g.J.Job.answer_made)
    _ _ c.take_permit.new.pass c.args.permit _ p c.self.view_is c.self.invariant permit c.take_permit.ensures.moved c.learn_permits.ensures.known
