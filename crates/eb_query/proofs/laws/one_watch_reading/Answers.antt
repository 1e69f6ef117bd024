use Rattle.eb_query.proofs.OneOutcome.{one_watch_outcome}
use Rattle.eb_query.proofs.laws.one_watch_reading.Goals as goal

pub returns : goal.returns
returns c = one_watch_outcome
