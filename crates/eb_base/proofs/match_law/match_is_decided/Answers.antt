use Rattle.eb_base.proofs.Matching.{match_decides}
use Rattle.eb_base.proofs.match_law.match_is_decided.Goals as goal

pub returns : goal.returns
returns c = match_decides
