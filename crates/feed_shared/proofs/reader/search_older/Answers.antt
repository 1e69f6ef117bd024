use Rattle.std.proofs.Common.{List, ◌-◌, ◌++◌, length, get_or, sym, ap, ◌∙◌, arith, refl, ◌<◌}
use Rattle.eb_base.specs.Match.{answer}
use Rattle.eb_cursor.specs.Frames.{query_of, k_of, ids_of}
use Rattle.eb_feed.proofs.Helds.{answer_older, answer_all}
use Rattle.feed_shared.specs.Turns.{PieceToken, past_of}
use Rattle.feed_shared.proofs.Helds.{held_docs, first_piece, set_back}
use Rattle.feed_shared.proofs.reader.search_older.Goals as goal

pub loop-at-init : goal.loop-at-init
loop-at-init g c = record {
  same = refl;
  query = refl;
  k = refl;
  ids = λ docs ts h e. e ∙ ap (answer (query_of c.args.frame.now) (k_of c.args.frame.now)) (sym (first_piece c.args.pieces.now docs ts h c.requires.some));
}

pub returns-then-is_full-clause-ids : goal.returns-then-is_full-clause-ids
returns-then-is_full-clause-ids g c = λ docs ts h e.
    let inv = c.loop-at.invariant in
    answer_all (query_of c.args.frame.now) (k_of c.args.frame.now) (past_of docs ts) c.loop-at.at (length c.args.pieces.now) (ids_of c.loop-at.frame)
    (omega (arith, c.loop-at-test.true, ap length inv.same)) (c.is_full.ensures.0 c.if-is_full.true ∙ inv.k) (inv.ids docs ts h e)

pub loop-at-preserved : goal.loop-at-preserved
loop-at-preserved g c =
    let inv = c.loop-at.invariant in
    let lt : c.loop-at.at < length c.loop-at.pieces = omega (arith, c.loop-at-test.true, ap length inv.same) in
    record {
      same = set_back c.loop-at.pieces c.loop-at.at c.search_known.new.self c.index-pieces-at.result lt c.search_known.ensures.same ∙ inv.same;
      query = c.search_known.ensures.query ∙ inv.query;
      k = c.search_known.ensures.k ∙ inv.k;
      ids = λ docs ts h e.
          let known = held_docs c.args.pieces.now docs ts c.loop-at.at c.index-pieces-at.result h (omega (arith, c.loop-at-test.true)) in
          let at = ap (λ (z : List PieceToken). (get_or z c.loop-at.at c.index-pieces-at.result).docs) inv.same ∙ known in
          answer_older (query_of c.args.frame.now) (k_of c.args.frame.now) (past_of docs ts) c.loop-at.at (ids_of c.loop-at.frame) (ids_of c.search_known.new.frame) (inv.ids docs ts h e)
          (c.search_known.ensures.ids ∙ (λ i. ids_of c.loop-at.frame ++ answer (inv.query i) (inv.k i - length (ids_of c.loop-at.frame)) (at i)));
    }
