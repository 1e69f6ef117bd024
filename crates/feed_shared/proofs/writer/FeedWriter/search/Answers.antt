use Rattle.std.proofs.Common.{List, ap, subst, sym, ◌∙◌, ◌++◌, ◌-◌, length, suc}
use Rattle.std.proofs.lemmas.List.{with_items_is}
use Rattle.eb_cursor.specs.Frames.{query_of, k_of, ids_of}
use Rattle.eb_base.specs.Match.{answer}
use Rattle.eb_engine.specs.Tokens.{HistoryToken}
use Rattle.feed_shared.specs.Turns.{PieceToken, piece_of, AreHeld, stretch_of, past_of}
use Rattle.feed_shared.proofs.GoingOn.{whole_stretch, first_ones}
use Rattle.feed_shared.proofs.writer.FeedWriter.search.Goals as goal

pub returns-clause-ids : goal.returns-clause-ids
returns-clause-ids g c =
    let w : PieceToken = piece_of c.self.inside.writer in
    let older = c.self.inside.older.items in
    let q = query_of c.args.frame.now in
    let k = k_of c.args.frame.now in
    let first = ids_of c.search-count.new.frame in
    let found = ids_of c.search_behind.new.frame in
    let lent = c.as_mut_slice.ensures.value in
    let e = c.search-count.ensures in
    let same = with_items_is c.self.inside.older c.search_behind.new.pieces (ap length c.search_behind.ensures.same ∙ c.as_mut_slice.ensures.len) ∙ (c.search_behind.ensures.same ∙ lent) in
    whole_stretch q k w older c.self.inside.trail.log first found c.self.invariant.4 (e.ids ∙ ap (λ (t : HistoryToken). answer q k t.docs) e.this)
    (λ docs ts h.
    let z = c.search_behind.ensures.ids docs ts (subst (λ (z : List PieceToken). AreHeld z docs ts) (sym lent) h) in
    z ∙ (λ i. first ++ answer (e.query i) (e.k i - length first) (first_ones (length (lent i)) (past_of docs ts))))
    ∙ (λ i. answer q k (stretch_of (suc (length (sym same i))) c.self.inside.trail.log (sym e.this i).docs))
