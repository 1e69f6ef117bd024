use Rattle.eb_io.specs.Lines.{lines_of}
use Rattle.eb_run.proofs.Feeds.{one_fed}
use Rattle.eb_run.proofs.laws.feed_one_text.Goals as goal

pub returns : goal.returns
returns c = λ how asked bytes a b settled. one_fed asked.way how asked (lines_of bytes) a b settled
