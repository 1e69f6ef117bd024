use Rattle.std.proofs.Common.{◌+◌, ◌*◌}
use Rattle.eb_base.specs.Query.{tree}
use Rattle.eb_cursor.specs.Asked.{weight, weights, trees_in}
use Rattle.eb_cursor.proofs.begin.+begin.Given as goal

abbrev pub decreases-begin : goal.decreases-begin
decreases-begin g l = 2 * weight (tree l.query.now)

abbrev pub decreases-begin_and : goal.decreases-begin_and
decreases-begin_and g l = 2 * weights (trees_in l.parts.now) + 1

abbrev pub decreases-begin_each : goal.decreases-begin_each
decreases-begin_each g l = 2 * weights (trees_in l.parts.now)

abbrev pub decreases-begin_some : goal.decreases-begin_some
decreases-begin_some g l = 2 * weights (trees_in l.parts.now)
