use Rattle.std.proofs.Common.{ap, sym, subst, ◌∙◌}
use Rattle.std.specs.Prelude.{Contains}
use Rattle.eb_desk.specs.declared.rule.View.TheVariants.{At}
use Rattle.eb_desk.specs.Rule.{IsGiven}
use Rattle.eb_desk.specs.Steps.{after_answer}
use Rattle.eb_desk.proofs.AnswersKept.{puts_answer}
use Rattle.eb_desk.proofs.calls.put_answer.Goals as goal

pub try_push_as-requires-clause-rule : goal.try_push_as-requires-clause-rule
try_push_as-requires-clause-rule g c =
    let r = c.requires.rule in
    let e = sym c.loop.invariant.2 in
    puts_answer g.J.Job.answer_pair (IsGiven g.J.Job.answer_made) _ _ _ _ r.0 r.1 (c.loop.invariant.1 ∙ r.2) r.3 (subst (IsGiven g.J.Job.answer_made r.0) e r.4)
    (subst (λ a. Contains r.1.known (g.J.Job.answer_pair a)) e r.5)

pub returns-in-Ok-clause-moved : goal.returns-in-Ok-clause-moved
returns-in-Ok-clause-moved g c = λ index h e. c.in-Ok.ensures.rule index h (c.loop.invariant.1 ∙ e) ∙ ap (λ a. At index (after_answer h (g.J.Job.answer_pair a))) c.loop.invariant.2
