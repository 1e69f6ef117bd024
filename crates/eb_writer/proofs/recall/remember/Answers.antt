use Rattle.eb_writer.proofs.Recalling.{remembers_more}
use Rattle.eb_writer.proofs.recall.remember.Goals as goal

pub returns : goal.returns
returns c = remembers_more c.args.recall.now c.args.terms.now c.args.at c.args.bucket c.requires.0 c.requires.1 c.requires.3 c.requires.2 _
