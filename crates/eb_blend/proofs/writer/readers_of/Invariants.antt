use Rattle.std.proofs.Common.{◌≡◌, take}
use Rattle.eb_blend.proofs.writer.readers_of.Given as goal

abbrev pub invariant-loop-at : goal.invariant-loop-at
invariant-loop-at l = record {
  same : l.writers ≡ l.fn.writers;
  items : l.readers.items ≡ take l.at l.fn.writers;
}
