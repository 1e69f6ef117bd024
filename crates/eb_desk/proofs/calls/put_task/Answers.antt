use Rattle.std.proofs.Common.{ap, sym, subst, ◌∙◌}
use Rattle.eb_desk.specs.declared.rule.View.TheVariants.{At}
use Rattle.eb_desk.specs.Rule.{asked_pair, IsAsked, IsMadeTask}
use Rattle.eb_desk.specs.Steps.{MayPut, put_in}
use Rattle.eb_desk.proofs.JobsKept.{puts_task}
use Rattle.eb_desk.proofs.calls.put_task.Goals as goal

pub try_push_as-requires-clause-rule : goal.try_push_as-requires-clause-rule
try_push_as-requires-clause-rule g c =
    let r = c.requires.rule in
    let t = sym c.loop.invariant.2 in
    let pair = asked_pair g.J.Job.pair in
    let made = IsAsked g.J.Job.pair g.J.Job.made in
    puts_task pair made _ _ _ _ r.0 r.1 (c.loop.invariant.1 ∙ r.2) r.3 (subst (IsMadeTask made r.0) t r.4) (subst (MayPut pair r.1) t r.5)

pub returns-in-Ok-clause-moved : goal.returns-in-Ok-clause-moved
returns-in-Ok-clause-moved g c = λ index h e. c.in-Ok.ensures.rule index h (c.loop.invariant.1 ∙ e) ∙ ap (λ t. At index (put_in (asked_pair g.J.Job.pair) h t)) c.loop.invariant.2
