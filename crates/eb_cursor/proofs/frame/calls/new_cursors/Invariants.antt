use Rattle.std.proofs.Common.{◌≡◌, length}
use Rattle.eb_cursor.proofs.frame.calls.new_cursors.Given as goal

abbrev pub invariant-loop-at : goal.invariant-loop-at
invariant-loop-at l = length l.cursors.items ≡ l._at
