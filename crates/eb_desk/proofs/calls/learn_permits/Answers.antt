use Rattle.eb_desk.specs.Rule.{IsGiven}
use Rattle.eb_desk.proofs.AnswersKept.{learns_permits}
use Rattle.eb_desk.proofs.calls.learn_permits.Goals as goal

pub learn_as-requires-clause-rule : goal.learn_as-requires-clause-rule
learn_as-requires-clause-rule g c = let r = c.requires.rule in learns_permits g.J.Job.answer_pair (IsGiven g.J.Job.answer_made) _ _ r.0 r.1 r.2
