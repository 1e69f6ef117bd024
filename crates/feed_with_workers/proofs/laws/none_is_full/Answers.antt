use Rattle.feed_with_workers.proofs.Law.{none_is_full}
use Rattle.feed_with_workers.proofs.laws.none_is_full.Goals as goal

pub returns : goal.returns
returns c = none_is_full
