use Rattle.eb_query.proofs.Cuts.{first_none}
use Rattle.eb_query.proofs.laws.in_plain.Goals as goal

pub returns : goal.returns
returns c = first_none
