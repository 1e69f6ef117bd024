use Rattle.std.proofs.Common.{◌≡◌, length}
use Rattle.eb_base.specs.Hashing.{hash, hashed}
use Rattle.eb_base.proofs.hashing.hash_of.Given as goal

abbrev pub invariant-loop-left : goal.invariant-loop-left
invariant-loop-left l = hashed l.hash l.left ≡ hash l.bytes

abbrev pub decreases-loop-left : goal.decreases-loop-left
decreases-loop-left l = length l.left
