use Rattle.eb_desk.specs.Rule.{IsGiven}
use Rattle.eb_desk.proofs.Law.{kept}
use Rattle.eb_desk.proofs.laws.answers_are_kept.Goals as goal

pub returns : goal.returns
returns g c = kept g.J.Job.answer_pair (IsGiven g.J.Job.answer_made)
