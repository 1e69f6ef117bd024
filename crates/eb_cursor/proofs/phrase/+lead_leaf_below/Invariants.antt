use Rattle.std.proofs.Common.{length}
use Rattle.eb_cursor.proofs.phrase.+lead_leaf_below.Given as goal

abbrev pub decreases-lead_leaf_below : goal.decreases-lead_leaf_below
decreases-lead_leaf_below g l = length l.cursors.now
