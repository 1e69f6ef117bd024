use Rattle.std.proofs.Common.{◌≡◌, [], get_or, subst, sym, arith}
use Rattle.eb_feed.specs.declared.generation.Generation.{Generation}
use Rattle.eb_feed.specs.Held.{HoldsExactly}
use Rattle.eb_feed.proofs.Generations.{segments_next}
use Rattle.eb_feed.proofs.Helds.{held_at}
use Rattle.eb_feed.proofs.feed.count_segments.Goals as goal

pub loop-at-preserved : goal.loop-at-preserved
loop-at-preserved c =
    let inv = c.loop-at.invariant in
    let next : c.from-count.result ≡ c.segments.result = c.from-count.ensures in
    record {
      count = λ σ past h.
          let held = subst (λ (g : Generation). HoldsExactly g σ (get_or past c.loop-at.at [])) (sym c.index-generations-at.is)
          (held_at _ σ past c.loop-at.at c.index-generations-at.result h c.loop-at-test.true) in
          omega (arith, inv.count σ past h, next, c.segments.ensures σ _ held, segments_next σ past c.loop-at.at);
      few = omega (arith, inv.few, next);
    }
