use Rattle.eb_run.proofs.Feeds.{fed_none}
use Rattle.eb_run.proofs.feed.run_words.Goals as goal

pub returns-in-Err-NoMemory-clause-ends : goal.returns-in-Err-NoMemory-clause-ends
returns-in-Err-NoMemory-clause-ends g c = λ how asked is. fed_none asked.way how asked _ _
