use Rattle.std.proofs.Common.{ℕ, List, ap, subst, sym, ◌∙◌, ◌++◌, length, suc}
use Rattle.std.proofs.lemmas.List.{with_items_is}
use Rattle.eb_base.specs.Document.{Doc}
use Rattle.eb_base.specs.Query.{Tree}
use Rattle.eb_count.specs.Tallies.{HasCounted}
use Rattle.eb_cursor.specs.Frames.{query_of}
use Rattle.eb_engine.specs.Tokens.{HistoryToken}
use Rattle.feed_shared.specs.Turns.{PieceToken, piece_of, AreHeld, stretch_of, past_of}
use Rattle.feed_shared.proofs.GoingOn.{counted_whole, first_ones}
use Rattle.feed_shared.proofs.writer.FeedWriter.count.Goals as goal

pub returns-clause-counts : goal.returns-clause-counts
returns-clause-counts g c =
    let w : PieceToken = piece_of c.self.inside.writer in
    let older = c.self.inside.older.items in
    let log = c.self.inside.trail.log in
    let q = query_of c.args.frame.now in
    let before = c.args.tally.now in
    let middle = c.count-newest.new.tally in
    let after = c.count_behind.new.tally in
    let lent = c.as_mut_slice.ensures.value in
    let e = c.count-newest.ensures in
    let same = with_items_is c.self.inside.older c.count_behind.new.pieces (ap length c.count_behind.ensures.same ∙ c.as_mut_slice.ensures.len) ∙ (c.count_behind.ensures.same ∙ lent) in
    let newest : HasCounted (query_of c.count-newest.new.frame) w.docs before middle =
    subst (λ (x : Tree × List Doc). HasCounted x.0 x.1 before middle) (λ i. (sym e.seen.query i, (e.this i).docs)) e.counts in
    let whole : HasCounted q (stretch_of (suc (length older)) log w.docs) before after =
    counted_whole q w older log before after c.self.invariant.4 (λ docs ts h.
    subst (λ (x : Tree × ℕ). HasCounted x.0 (first_ones x.1 (past_of docs ts) ++ w.docs) before after) (λ i. (e.seen.query i, length (lent i)))
    (c.count_behind.ensures.counts docs ts w.docs before (subst (λ (z : List PieceToken). AreHeld z docs ts) (sym lent) h) newest)) in
    subst (λ (x : List PieceToken × HistoryToken). HasCounted q (stretch_of (suc (length x.0)) log x.1.docs) before after) (λ i. (sym same i, sym e.this i)) whole
