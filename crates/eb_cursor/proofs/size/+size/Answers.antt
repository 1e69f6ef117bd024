use Rattle.std.proofs.Common.{ap, arith}
use Rattle.eb_base.specs.Query.{sizes}
use Rattle.eb_cursor.specs.Asked.{weights, trees_in}
use Rattle.eb_cursor.proofs.size.+size.Goals as goal

pub sizes-sizes-requires : goal.sizes-sizes-requires
sizes-sizes-requires t c = let e = ap (λ qs. sizes (trees_in qs)) c.in-Some.ensures.cases.0 in let w = ap (λ qs. weights (trees_in qs)) c.in-Some.ensures.cases.0 in
    (omega (arith, w, c.decreases), omega (arith, e, c.requires))
