use Rattle.eb_base.specs.Query.{tree}
use Rattle.eb_cursor.specs.Asked.{weight, weights, trees_in}
use Rattle.eb_cursor.proofs.rarest.+common.Given as goal

abbrev pub decreases-commonness_of_part : goal.decreases-commonness_of_part
decreases-commonness_of_part l = weight (tree l.query.now)

abbrev pub decreases-rarest : goal.decreases-rarest
decreases-rarest l = weights (trees_in l.parts.now)

abbrev pub decreases-commonness_of_some : goal.decreases-commonness_of_some
decreases-commonness_of_some l = weights (trees_in l.parts.now)
