use Rattle.std.proofs.Common.{◌⊎◌, ◌≡◌, ◌+◌, true, false, inl, inr, refl, arith}
use Rattle.eb_cursor.proofs.Longest.{begun_next, most_now, most_still}
use Rattle.eb_cursor.proofs.run.long_run.Goals.{then-ne, else-ne}
use Rattle.eb_cursor.proofs.run.long_run.Goals as goal

pub loop-at-preserved-then-at-from : goal.loop-at-preserved-then-at-from
loop-at-preserved-then-at-from c =
    let i = c.loop-at.invariant in
    let is : ((c.ne.result ≡ true) × (c.if-ne.from ≡ c.loop-at.at)) ⊎ ((c.ne.result ≡ false) × (c.if-ne.from ≡ c.loop-at.from)) = elim c.if-ne.branch [
      | then-ne w ↦ inl (w.if-ne.true, w.from-is)
      | else-ne w ↦ inr (w.if-ne.false, w.from-is)
    ] in
    let n = begun_next c.args.terms.now c.loop-at.from c.if-ne.from c.loop-at.at c.index-terms-at.result c.index-terms-from.result c.ne.result i.begun (omega (arith, c.loop-at-test.true))
    i.one i.begins c.index-terms-at.is c.index-terms-from.is c.ne.ensures is in
    record {
      begun = omega (arith, n.low);
      within = omega (arith, c.loop-at-test.true);
      one = n.one;
      begins = n.begins;
      falls = omega (arith, n.low);
      seen = omega arith;
      longest = n.one;
      most = most_now c.args.terms.now c.loop-at.longest (record { from = c.if-ne.from; to = c.loop-at.at + 1 }) c.loop-at.at refl (omega (arith, c.if-at-from.true)) n.begins i.most;
    }

pub loop-at-preserved : goal.loop-at-preserved
loop-at-preserved c =
    let i = c.loop-at.invariant in
    let is : ((c.ne.result ≡ true) × (c.if-ne.from ≡ c.loop-at.at)) ⊎ ((c.ne.result ≡ false) × (c.if-ne.from ≡ c.loop-at.from)) = elim c.if-ne.branch [
      | then-ne w ↦ inl (w.if-ne.true, w.from-is)
      | else-ne w ↦ inr (w.if-ne.false, w.from-is)
    ] in
    let n = begun_next c.args.terms.now c.loop-at.from c.if-ne.from c.loop-at.at c.index-terms-at.result c.index-terms-from.result c.ne.result i.begun (omega (arith, c.loop-at-test.true))
    i.one i.begins c.index-terms-at.is c.index-terms-from.is c.ne.ensures is in
    record {
      begun = omega (arith, n.low);
      within = omega (arith, c.loop-at-test.true);
      one = n.one;
      begins = n.begins;
      falls = i.falls;
      seen = omega (arith, i.seen);
      longest = i.longest;
      most = most_still c.args.terms.now c.loop-at.longest c.if-ne.from c.loop-at.at i.falls i.seen (omega (arith, c.if-at-from.false)) n.begins i.most;
    }
