use Rattle.std.proofs.Common.{◌≡◌, ℕ, ◌≤◌, length}
use mathlib.Core.List.{IsPrefix}
use Rattle.eb_blend.specs.Parts.{history, histories_of}
use Rattle.eb_blend.proofs.writer.meet_each.Given as goal

abbrev pub invariant-loop-reader : goal.invariant-loop-reader
invariant-loop-reader l = record {
  same : l.writers ≡ l.fn.writers;
  front : IsPrefix l.readers.items l.fn.readers.items;
  done : (p : ℕ) → length l.readers.items ≤ p → IsPrefix (history (histories_of l.fn.readers.items) p) (history (histories_of l.fn.writers) p);
}

abbrev pub decreases-loop-reader : goal.decreases-loop-reader
decreases-loop-reader l = length l.readers.items
