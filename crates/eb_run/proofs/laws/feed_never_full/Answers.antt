use Rattle.eb_run.proofs.NeverFull.{never_full}
use Rattle.eb_run.proofs.laws.feed_never_full.Goals as goal

pub returns : goal.returns
returns c = never_full
