use Rattle.eb_desk.specs.Rule.{IsGiven}
use Rattle.eb_desk.proofs.AnswersKept.{takes_answer}
use Rattle.eb_desk.proofs.calls.take_answer.Goals as goal

pub try_pop_as-requires-clause-rule : goal.try_pop_as-requires-clause-rule
try_pop_as-requires-clause-rule g c = let r = c.requires.rule in takes_answer g.J.Job.answer_pair (IsGiven g.J.Job.answer_made) _ _ r.0 r.1 r.2 r.3
