use Rattle.std.proofs.Common.{◌≡◌}
use Rattle.embedding_example.proofs.add_all.Given as goal

abbrev pub invariant-loop-message : goal.invariant-loop-message
invariant-loop-message l = l.writer.index ≡ l.index
