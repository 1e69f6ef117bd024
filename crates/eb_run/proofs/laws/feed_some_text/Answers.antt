use Rattle.eb_io.specs.Lines.{lines_of}
use Rattle.eb_run.proofs.Feeds.{some_fed}
use Rattle.eb_run.proofs.laws.feed_some_text.Goals as goal

pub returns : goal.returns
returns c = λ how asked bytes. some_fed asked.way how asked (lines_of bytes)
