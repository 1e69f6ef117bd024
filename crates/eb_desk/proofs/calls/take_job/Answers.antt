use Rattle.std.proofs.Common.{subst}
use Rattle.crossbeam_queue.specs.Passes.{view}
use Rattle.eb_desk.specs.Rule.{asked_pair, IsAsked}
use Rattle.eb_desk.specs.Steps.{Moves, taken_out, IsTaken}
use Rattle.eb_desk.proofs.calls.take_job.Goals as goal

pub returns-in-Some-Job-clause-moved : goal.returns-in-Some-Job-clause-moved
returns-in-Some-Job-clause-moved g c =
    let m = subst (λ x. Moves (view c.args.pass.now) (λ h. taken_out (asked_pair g.J.Job.pair) h x) (view c.take_task.new.pass) × IsTaken (IsAsked g.J.Job.pair g.J.Job.made) (view c.args.pass.now) x)
    c.in-Some-Job.field-0-is c.in-Some-Job.ensures.moved in
    ((λ w h e. m.0 w h e), λ w h e. (m.1 w h e).0)
