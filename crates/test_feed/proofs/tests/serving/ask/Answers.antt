use Rattle.std.proofs.Common.{ℕ, ◌+◌, List, sym, subst}
use Rattle.eb_desk.specs.Desk.{ClerkBook}
use Rattle.eb_desk.specs.Rule.{IsAboveEach}
use Rattle.eb_desk.proofs.Asking.{above_next}
use Rattle.test_feed.proofs.tests.serving.ask.Goals as goal

pub returns-clause-above : goal.returns-clause-above
returns-clause-above g c =
    subst (λ (k : ClerkBook (List ℕ)). IsAboveEach (c.args.number + 1) k.put) (sym c.ask.ensures) (above_next c.args.number c.args.clerk.now.put _ c.requires.above c.in_ok-job.ensures.number)
