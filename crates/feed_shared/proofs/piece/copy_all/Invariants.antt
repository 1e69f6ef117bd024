use Rattle.std.proofs.Common.{◌≡◌, ◌++◌, take}
use Rattle.feed_shared.proofs.piece.copy_all.Given as goal

abbrev pub invariant-loop-at : goal.invariant-loop-at
invariant-loop-at l = record {
  same : l.pieces ≡ l.fn.pieces;
  copies : l.copies.items ≡ l.fn.copies.items ++ take l.at l.fn.pieces;
}
