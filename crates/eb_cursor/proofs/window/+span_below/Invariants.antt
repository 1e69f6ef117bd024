use Rattle.std.proofs.Common.{◌+◌, ◌*◌, length}
use Rattle.eb_cursor.proofs.window.+span_below.Given as goal

abbrev pub decreases-span_below : goal.decreases-span_below
decreases-span_below g l = 3 * length l.cursors.now

abbrev pub decreases-rest_below : goal.decreases-rest_below
decreases-rest_below g l = 3 * length l.cursors.now + 2

abbrev pub decreases-more_below : goal.decreases-more_below
decreases-more_below g l = 3 * length l.cursors.now + 1
