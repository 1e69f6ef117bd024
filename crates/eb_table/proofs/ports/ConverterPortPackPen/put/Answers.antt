use Rattle.std.proofs.Common.{refl}
use Rattle.eb_table.proofs.Standing.{stands_put}
use Rattle.eb_table.proofs.ports.ConverterPortPackPen.put.Goals as goal

pub returns : goal.returns
returns c m h next = (stands_put _ _ _ m _ _ c.put.ensures h next, (refl, refl))
