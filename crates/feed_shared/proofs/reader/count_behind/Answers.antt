use Rattle.std.proofs.Common.{◌≡◌, List, ◌++◌, ◌+◌, length, take, get_or, sym, subst, ap, ◌∙◌, arith, refl, ◌<◌, [], append_assoc}
use Rattle.eb_base.specs.Document.{Doc}
use Rattle.eb_base.specs.Query.{Tree}
use Rattle.eb_count.specs.Tallies.{HasCounted}
use Rattle.eb_count.proofs.Counting.{counted_on}
use Rattle.eb_cursor.specs.Frames.{query_of}
use Rattle.eb_feed.specs.Generations.{joined_generations}
use Rattle.eb_feed.proofs.Generations.{joined_next}
use Rattle.feed_shared.specs.Turns.{PieceToken, past_of}
use Rattle.feed_shared.proofs.Helds.{held_docs, set_back}
use Rattle.feed_shared.proofs.reader.count_behind.Goals as goal

pub loop-at-init : goal.loop-at-init
loop-at-init g c = record {
  same = refl;
  seen = record { query = refl; k = refl; ids = refl };
  counts = λ docs ts newer before h k. k;
}

pub loop-at-preserved : goal.loop-at-preserved
loop-at-preserved g c =
    let inv = c.loop-at.invariant in
    let took = c.count_known.ensures in
    let lt : c.loop-at.at < length c.loop-at.pieces = omega (arith, c.loop-at-test.true, ap length inv.same) in
    record {
      same = set_back c.loop-at.pieces c.loop-at.at c.count_known.new.self c.index-pieces-at.result lt took.same ∙ inv.same;
      seen = record { query = took.seen.query ∙ inv.seen.query; k = took.seen.k ∙ inv.seen.k; ids = took.seen.ids ∙ inv.seen.ids };
      counts = λ docs ts newer before h k.
          let q = query_of c.args.frame.now in
          let past : List (List Doc) = past_of docs ts in
          let own = get_or past c.loop-at.at [] in
          let front = joined_generations (take c.loop-at.at past) in
          let known = held_docs c.args.pieces.now docs ts c.loop-at.at c.index-pieces-at.result h (omega (arith, c.loop-at-test.true)) in
          let at = ap (λ (z : List PieceToken). (get_or z c.loop-at.at c.index-pieces-at.result).docs) inv.same ∙ known in
          let more : HasCounted q own c.loop-at.tally c.count_known.new.tally =
          subst (λ (x : Tree × List Doc). HasCounted x.0 x.1 c.loop-at.tally c.count_known.new.tally) (λ i. (inv.seen.query i, at i)) took.counts in
          let all : own ++ (front ++ newer) ≡ joined_generations (take (c.loop-at.at + 1) past) ++ newer =
          sym (append_assoc own front newer) ∙ ap (λ (z : List Doc). z ++ newer) (sym (joined_next past c.loop-at.at)) in
          subst (λ (z : List Doc). HasCounted q z before c.count_known.new.tally) all
          (counted_on q own (front ++ newer) before c.loop-at.tally c.count_known.new.tally (inv.counts docs ts newer before h k) more);
    }
