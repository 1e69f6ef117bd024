use Rattle.eb_desk.specs.Rule.{IsGiven}
use Rattle.eb_desk.proofs.AnswersKept.{splits_answers}
use Rattle.eb_desk.proofs.calls.cut_putter.Goals as goal

pub another-requires-clause-rule : goal.another-requires-clause-rule
another-requires-clause-rule g c = splits_answers g.J.Job.answer_pair (IsGiven g.J.Job.answer_made) _ _ _ c.requires.rule
