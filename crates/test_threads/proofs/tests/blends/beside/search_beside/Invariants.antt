use Rattle.std.proofs.Common.{◌≡◌, length}
use Rattle.eb_base.specs.Query.{tree}
use Rattle.eb_blend.specs.Frames.{Asks}
use Rattle.test_threads.proofs.tests.blends.beside.search_beside.Given as goal

abbrev pub invariant-loop : goal.invariant-loop
invariant-loop l = record {
  made : l.reader.indexes ≡ l.blend.indexes;
  asks : Asks l.frame (tree l.query) 10 (length l.blend.indexes);
}
