use Rattle.std.proofs.Common.{◌≡◌, ℕ, ◌<◌, get_or, false}
use Rattle.eb_text.specs.Pieces.{is_mark}
use Rattle.eb_text.proofs.pieces.mark_at.Given as goal

abbrev pub invariant-loop-at : goal.invariant-loop-at
invariant-loop-at l = (k : ℕ) → k < l.at → is_mark (get_or l.bytes k 0) ≡ false
