use Rattle.std.proofs.Common.{◌≡◌, ◌+◌, ◌-◌, ◌^◌, List, length, take, reverse, min, ap, subst, ◌∙◌}
use Rattle.eb_base.specs.Document.{Doc}
use Rattle.eb_feed.specs.Generations.{joined_generations}
use Rattle.feed_shared.specs.declared.turn.Turn.{Turn}
use Rattle.feed_shared.specs.Turns.{PieceToken, WriterToken, piece_of, past_of, stretch_of, counted, AreHeld}
use Rattle.feed_shared.proofs.Counting.{kept_count}
use Rattle.feed_shared.proofs.writer.FeedWriter.kept.Goals as goal

pub returns-clause-kept : goal.returns-clause-kept
returns-clause-kept c =
    let s = c.self.inside in
    let seen = c.seen_in.result in
    let all = subst (λ (ps : List PieceToken). (docs : List Doc) (ts : List Turn) → AreHeld ps docs ts → seen ≡ counted (joined_generations (take (length ps) (past_of docs ts))))
    c.as_slice.ensures.value c.seen_in.ensures in
    subst (λ (w : WriterToken). c.saturating_add.result ≡ counted (stretch_of w.feed.held w.feed.log w.feed.docs)) c.self.view_is
    (c.saturating_add.ensures ∙ ap (λ n. min (n + seen) (2 ^ 64 - 1)) c.accepted-newest.ensures ∙ kept_count (piece_of s.writer) s.older.items (reverse s.trail.log) seen c.self.invariant.4 all)
