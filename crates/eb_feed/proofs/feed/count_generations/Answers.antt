use Rattle.std.proofs.Common.{List, length, take, get_or, subst, sym, ap, ◌∙◌, arith, [], refl}
use Rattle.eb_base.specs.Document.{Doc}
use Rattle.eb_count.specs.Tallies.{HasCounted}
use Rattle.eb_count.proofs.Counting.{counted_none, counted_on}
use Rattle.eb_cursor.specs.Frames.{query_of}
use Rattle.eb_feed.specs.declared.generation.Generation.{Generation}
use Rattle.eb_feed.specs.Generations.{joined_generations}
use Rattle.eb_feed.specs.Held.{AreHeld}
use Rattle.eb_feed.proofs.Generations.{joined_next}
use Rattle.eb_feed.proofs.Helds.{held_at, set_back}
use Rattle.eb_feed.proofs.feed.count_generations.Goals as goal

pub loop-at-init : goal.loop-at-init
loop-at-init g c = record {
  same = refl;
  seen = record { query = refl; k = refl; ids = refl };
  counts = λ σ past h. counted_none (query_of c.args.frame.now) c.args.tally.now;
}

pub count-requires : goal.count-requires
count-requires g c =
    let r = c.requires in
    let inv = c.loop-at.invariant in (
      r.0,
      _,
      held_at _ r.0 r.1 c.loop-at.at c.index-generations-at.result (subst (λ (z : List Generation). AreHeld z r.0 r.1) (sym inv.same) r.2) (omega (arith, c.loop-at-test.true, ap length inv.same)),
    )

pub loop-at-preserved : goal.loop-at-preserved
loop-at-preserved g c =
    let inv = c.loop-at.invariant in
    let took = c.count.ensures in
    record {
      same = set_back c.loop-at.generations c.loop-at.at c.count.new.self c.index-generations-at.result (omega (arith, c.loop-at-test.true, ap length inv.same)) took.same ∙ inv.same;
      seen = record { query = took.seen.query ∙ inv.seen.query; k = took.seen.k ∙ inv.seen.k; ids = took.seen.ids ∙ inv.seen.ids };
      counts = λ σ past h.
          let held = held_at _ σ past c.loop-at.at c.index-generations-at.result
          (subst (λ (z : List Generation). AreHeld z σ past) (sym inv.same) h) (omega (arith, c.loop-at-test.true, ap length inv.same)) in
          let docs : List Doc = get_or past c.loop-at.at [] in
          let q = query_of c.args.frame.now in
          let more : HasCounted q docs c.loop-at.tally c.count.new.tally = subst (λ z. HasCounted z docs c.loop-at.tally c.count.new.tally) inv.seen.query (took.counts σ docs held) in
          subst (λ (z : List Doc). HasCounted q z c.args.tally.now c.count.new.tally) (sym (joined_next past c.loop-at.at))
          (counted_on q docs (joined_generations (take c.loop-at.at past)) c.args.tally.now c.loop-at.tally c.count.new.tally (inv.counts σ past h) more);
    }
