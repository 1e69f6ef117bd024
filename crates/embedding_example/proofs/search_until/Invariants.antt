use Rattle.std.proofs.Common.{◌≡◌}
use mathlib.Core.List.{IsPrefix}
use Rattle.embedding_example.proofs.search_until.Given as goal

abbrev pub invariant-loop : goal.invariant-loop
invariant-loop l = (l.reader.index ≡ l.index) × IsPrefix l.initial.reader.docs l.reader.docs
