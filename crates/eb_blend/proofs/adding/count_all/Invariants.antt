use Rattle.std.proofs.Common.{◌≡◌, take}
use Rattle.eb_blend.specs.Parts.{counted, lengths_of, histories_of}
use Rattle.eb_blend.proofs.adding.count_all.Given as goal

abbrev pub invariant-loop-writer : goal.invariant-loop-writer
invariant-loop-writer l = record {
  count : l.count ≡ counted (take l.writer-index (lengths_of (histories_of l.writers)));
}
