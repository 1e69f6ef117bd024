use Rattle.eb_desk.specs.Rule.{IsGiven}
use Rattle.eb_desk.proofs.AnswersKept.{joins_permit}
use Rattle.eb_desk.proofs.calls.take_permit.Goals as goal

pub absorb-requires-clause-rule : goal.absorb-requires-clause-rule
absorb-requires-clause-rule g c = joins_permit g.J.Job.answer_pair (IsGiven g.J.Job.answer_made) _ _ _ _ _ c.requires.home.0 _ c.requires.home.1 c.requires.permit
