use Rattle.std.proofs.Common.{length}
use Rattle.eb_cursor.proofs.rarest.+rarest_leaf.Given as goal

abbrev pub decreases-rarest_leaf : goal.decreases-rarest_leaf
decreases-rarest_leaf l = length l.cursors.now
