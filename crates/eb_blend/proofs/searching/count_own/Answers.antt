use Rattle.std.proofs.Common.{◌<◌, length, arith}
use Rattle.eb_blend.proofs.Each.{lengths_more, sum_push}
use Rattle.eb_blend.proofs.searching.count_own.Goals as goal

pub loop-at-preserved : goal.loop-at-preserved
loop-at-preserved c =
    let inv = c.loop-at.invariant in
    let n = c.loop-at.at in
    let ts = c.args.writers.now in
    let lt : n < length ts = omega (arith, c.loop-at-test.true) in
    let l : n < length c.loop-at.lengths = omega (arith, c.loop-at-test.true, c.requires, c.loop-at.auto.lengths) in
    record {
      lengths = lengths_more c.loop-at.lengths ts n c.accepted-added.result c.index-writers-at.result l lt c.index-writers-at.is inv.lengths c.accepted-added.ensures;
      sum = let s = sum_push c.loop-at.lengths n c.accepted-added.result c.loop-at.count l inv.sum in let a = c.saturating_add-count.ensures in grind (arith, s, a);
    }
