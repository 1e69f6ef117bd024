use Rattle.std.proofs.Common.{◌≡◌, take, map}
use Rattle.eb_base.specs.Query.{tree, parts_of}
use Rattle.eb_base.proofs.query_copy.+copy.Given as goal

abbrev pub decreases-copy_query : goal.decreases-copy_query
decreases-copy_query l = goal.size-copy_query l

abbrev pub decreases-copy_parts : goal.decreases-copy_parts
decreases-copy_parts l = goal.size-copy_parts l

abbrev pub invariant-copy_parts-loop-part : goal.invariant-copy_parts-loop-part
invariant-copy_parts-loop-part l = parts_of l.copied ≡ map tree (take l.part-index l.part-items)
