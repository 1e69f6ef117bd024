use Rattle.std.proofs.Common.{◌∙◌}
use Rattle.test_threads.proofs.tests.blends.beside.search_beside.Goals as goal

pub loop-preserved : goal.loop-preserved
loop-preserved c = record {
  made = c.searched-count.ensures.indexes ∙ c.loop.invariant.made;
  asks = c.searched-count.ensures.asks _ _ _ c.loop.invariant.asks;
}
