use Rattle.std.proofs.Common.{◌≡◌, ◌≤◌}
use Rattle.run_ahead.proofs.reading.no_pieces.Given as goal

abbrev pub invariant-loop-piece : goal.invariant-loop-piece
invariant-loop-piece l = (l.pieces.len ≡ l._piece) × (l.count ≤ l.pieces.cap)
