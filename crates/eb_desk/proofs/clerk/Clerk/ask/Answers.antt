use Rattle.std.proofs.Common.{ℕ, List, refl, sym, subst}
use Rattle.eb_desk.specs.Desk.{ClerkBook}
use Rattle.eb_desk.specs.Rule.{asked_pair, IsAsked, IsGiven, IsAboveEach}
use Rattle.eb_desk.proofs.Books.{clerk_is, clerk_asked}
use Rattle.eb_desk.proofs.clerk.Clerk.ask.Goals as goal

pub put_task-requires-clause-rule : goal.put_task-requires-clause-rule
put_task-requires-clause-rule g c =
    let is = c.self.invariant in
    let seen = sym c.self.view_is in
    let made = subst (λ (o : ClerkBook (List ℕ)). g.J.Job.made o.home c.args.job) seen c.requires.made in
    let rising = subst (λ (o : ClerkBook (List ℕ)). IsAboveEach (g.J.Job.pair c.args.job).number o.put) seen c.requires.rising in
    (_, _, is.jobs, refl, (made, c.cut_permit-permit.ensures.permit _ _ is.answers is.table), rising)

pub invariant_of-self : goal.invariant_of-self
invariant_of-self g c =
    let is = c.self.invariant in
    let cut = c.cut_permit-permit.ensures in
    clerk_is (asked_pair g.J.Job.pair) g.J.Job.answer_pair (IsAsked g.J.Job.pair g.J.Job.made) (IsGiven g.J.Job.answer_made)
    _ _ _ _ _ _ _ _ _ is c.put_task.ensures.pass.2 cut.pass.2 cut.pass.0 (c.put_task.ensures.moved _ _ is.jobs) (cut.moved _ _ is.answers)

pub returns : goal.returns
returns g c =
    let is = c.self.invariant in
    let cut = c.cut_permit-permit.ensures in
    clerk_asked (asked_pair g.J.Job.pair) g.J.Job.answer_pair (IsAsked g.J.Job.pair g.J.Job.made) (IsGiven g.J.Job.answer_made)
    c.self.inside.jobs c.put_task.new.pass c.self.inside.answers c.cut_permit-permit.new.pass _ (g.J.Job.pair c.args.job) _ _ c.self.view_is is
    c.put_task.ensures.pass.0 cut.pass.0 (c.put_task.ensures.moved _ _ is.jobs) (cut.moved _ _ is.answers)
