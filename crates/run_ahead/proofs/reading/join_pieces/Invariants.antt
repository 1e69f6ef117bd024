use Rattle.eb_fields.specs.Dialect.{Dialect}
use Rattle.std.proofs.Common.{◌≡◌, ℕ, ◌*◌, ◌≤◌, List, take, length, get_or}
use Rattle.std.specs.List.{AllZip}
use Rattle.run_ahead.specs.Tasks.{IsTaskOf}
use Rattle.run_ahead.specs.Pieces.{ArePieces}
use Rattle.eb_io.specs.Lines.{Line}
use Rattle.run_ahead.proofs.reading.join_pieces.Given as goal

abbrev pub invariant-loop-at : goal.invariant-loop-at
invariant-loop-at l = record {
  same : (i : ℕ) (d : _) → l.at ≤ i → get_or l.pieces i d ≡ get_or l.initial.pieces i d;
  long : length l.pieces ≡ length l.initial.pieces;
  joined : (how : Dialect) (lines : List Line) (size : ℕ) → ArePieces how lines size l.initial.pieces
      → AllZip (IsTaskOf how) (take (l.at * size) lines) l.tasks.items;
}
