use Rattle.eb_writer.proofs.Adding.{stands_first}
use Rattle.eb_writer.proofs.placer.Placer.new.Goals as goal

pub returns : goal.returns
returns c = stands_first c.args.config
