use Rattle.eb_base.specs.Query.{tree}
use Rattle.eb_cursor.specs.Asked.{weight, weights, trees_in}
use Rattle.eb_cursor.proofs.size.+size.Given as goal

abbrev pub decreases-size : goal.decreases-size
decreases-size l = weight (tree l.query.now)

abbrev pub decreases-sizes : goal.decreases-sizes
decreases-sizes l = weights (trees_in l.parts.now)
