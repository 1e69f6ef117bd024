use Rattle.eb_query.proofs.OneOutcome.{one_outcome}
use Rattle.eb_query.proofs.laws.one_reading.Goals as goal

pub returns : goal.returns
returns c = one_outcome
