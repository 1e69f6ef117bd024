use Rattle.std.proofs.Common.{◌≡◌, take, map}
use Rattle.eb_base.specs.Query.{tree}
use Rattle.eb_base.proofs.query_is.+same.Given as goal

abbrev pub invariant-are_parts-loop-at : goal.invariant-are_parts-loop-at
invariant-are_parts-loop-at l = map tree (take l.at l.part-items) ≡ map tree (take l.at l.others.parts.items)
