use Rattle.std.proofs.Common.{length}
use Rattle.eb_cursor.proofs.begin.+clear.Given as goal

abbrev pub decreases-clear : goal.decreases-clear
decreases-clear l = length l.cursors.now
