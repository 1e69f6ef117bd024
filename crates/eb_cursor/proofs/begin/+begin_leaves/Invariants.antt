use Rattle.std.proofs.Common.{length}
use Rattle.eb_cursor.proofs.begin.+begin_leaves.Given as goal

abbrev pub decreases-begin_leaves : goal.decreases-begin_leaves
decreases-begin_leaves g l = length l.terms.now
