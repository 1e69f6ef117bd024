use Rattle.eb_query.proofs.SomeOutcome.{some_watch_outcome}
use Rattle.eb_query.proofs.laws.some_watch_reading.Goals as goal

pub returns : goal.returns
returns c = some_watch_outcome
