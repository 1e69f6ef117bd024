use Rattle.eb_query.proofs.SomeOutcome.{some_outcome}
use Rattle.eb_query.proofs.laws.some_reading.Goals as goal

pub returns : goal.returns
returns c = some_outcome
