use Rattle.eb_desk.specs.Desk.{nowhere}
use Rattle.eb_desk.specs.Rule.{IsGiven}
use Rattle.eb_desk.proofs.AnswersKept.{splits_permit}
use Rattle.eb_desk.proofs.calls.cut_permit.Goals as goal

pub another-requires-clause-rule : goal.another-requires-clause-rule
another-requires-clause-rule g c = let r = c.requires.rule in splits_permit g.J.Job.answer_pair (IsGiven g.J.Job.answer_made) nowhere _ _ r.0 r.1 _ r.2 r.3
