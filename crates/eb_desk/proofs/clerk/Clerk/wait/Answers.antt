use Rattle.std.proofs.Common.{ℕ, List, ap, sym, ◌∙◌, subst}
use Rattle.std.specs.Prelude.{Contains}
use Rattle.eb_desk.specs.declared.rule.Pair.{Pair}
use Rattle.eb_desk.specs.Homes.{Home}
use Rattle.eb_desk.specs.Desk.{ClerkBook, clerk_home}
use Rattle.eb_desk.specs.Rule.{IsPermit}
use Rattle.eb_desk.proofs.clerk.Clerk.wait.Goals as goal

pub returns-in-Some-take_job-clause-put : goal.returns-in-Some-take_job-clause-put
returns-in-Some-take_job-clause-put g c =
    let x = c.in-Some-take_job in
    let took = x.ensures in
    let p = g.J.Job.pair x.field-0.job in
    let permit = subst (λ (h : Home). IsPermit h p x.field-0.permit) (ap clerk_home (sym took.0)) took.1.1 in
    let put_of : ClerkBook (List ℕ) → List Pair = λ o. o.put in
    let put = ap put_of took.0 ∙ ap put_of c.in_default.ensures ∙ ap put_of c.loop.invariant in
    subst (λ (q : Pair). Contains c.args.self.now.put q) (sym c.answered.ensures.pair) (subst (λ (ps : List Pair). Contains ps p) put (c.redeem.ensures.put p permit))
