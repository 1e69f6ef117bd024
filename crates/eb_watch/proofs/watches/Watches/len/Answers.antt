use Rattle.eb_watch.proofs.Lists.{numbers_watched}
use Rattle.eb_watch.proofs.watches.Watches.len.Goals as goal

pub returns-clause-rising : goal.returns-clause-rising
returns-clause-rising c = rw (numbers_watched c.args.self.now.by_number.entries) c.args.self.now.rising

pub returns-clause-formed : goal.returns-clause-formed
returns-clause-formed c = c.args.self.now.formed
