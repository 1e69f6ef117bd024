use Rattle.std.proofs.Common.{ℕ, subst}
use Rattle.eb_desk.specs.Desk.{WorkerBook, HasWorked}
use Rattle.eb_desk.proofs.working.work_all.Goals as goal

pub returns : goal.returns
returns g c = λ i d h.
    let e = (c.for_each_mut.ensures i d h).1 in
    subst (λ (x : WorkerBook _ × WorkerBook _). (n : ℕ) × HasWorked x.0 x.1 n) (λ j. (e.argument_is j, e.left j)) e.call
