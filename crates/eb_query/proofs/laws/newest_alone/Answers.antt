use Rattle.eb_query.proofs.OneOutcome.{newest_alone}
use Rattle.eb_query.proofs.laws.newest_alone.Goals as goal

pub returns : goal.returns
returns c = newest_alone
