use Rattle.std.proofs.Common.{length}
use Rattle.eb_cursor.proofs.phrase.+leaves_below.Given as goal

abbrev pub decreases-leaves_below : goal.decreases-leaves_below
decreases-leaves_below g l = length l.cursors.now
