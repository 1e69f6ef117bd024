use Rattle.std.proofs.Common.{◌≡◌, ◌-◌, ◌^◌, min}
use Rattle.feed_shared.proofs.Counting.{known_in}
use Rattle.feed_shared.proofs.writer.seen_in.Given as goal

abbrev pub invariant-loop-at : goal.invariant-loop-at
invariant-loop-at l = l.count ≡ min (known_in l.at l.pieces) (2 ^ 64 - 1)
