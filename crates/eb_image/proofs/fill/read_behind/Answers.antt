use Rattle.std.proofs.Common.{◌-◌, arith}
use Rattle.std.proofs.lemmas.Grind.{common_steps}
use Rattle.eb_image.proofs.Taken.{behind}
use Rattle.eb_image.proofs.fill.read_behind.Goals as goal

pub returns-clause-left : goal.returns-clause-left
returns-clause-left g c = λ first f.
    behind c.read.result c.args.from (c.args.to - c.args.from) c.args.buffer.now c.read.new.into _ _ first (omega arith)
    (grind (arith, common_steps)) (grind (arith, common_steps, c.read.ensures.count)) c.read.ensures.left f
