use Rattle.std.proofs.Common.{◌≡◌, true, [], ap, sym, ◌∙◌}
use Rattle.eb_place.specs.Room.{has_room}
use Rattle.eb_table.specs.Known.{Words}
use Rattle.eb_feed.proofs.Generations.{empty_room}
use Rattle.feed_shared.specs.Turns.{WriterToken}
use Rattle.feed_shared.proofs.writer.FeedWriter.add_behind.Goals as goal

pub unreachable-requires : goal.unreachable-requires
unreachable-requires g c =
    let b = c.in_ok-turn.ensures.begun in
    let same : c.deref.result.now.setting ≡ c.self.inside.config =
    ap (λ (w : Words). w.setting) (c.deref.ensures ∙ sym c.self-2.invariant.2)
    ∙ (c.self-2.invariant.3 ∙ (ap (λ (t : WriterToken). t.setting) c.self-2.view_is ∙ (b.setting ∙ sym (ap (λ (t : WriterToken). t.setting) c.self.view_is)))) in
    let none : c.self-2.inside.writer.docs ≡ [] = ap (λ (t : WriterToken). t.feed.docs) c.self-2.view_is ∙ b.docs in
    let room : has_room c.deref.result.now.setting c.self-2.inside.writer.docs c.args.document.now ≡ true =
    rw (same, none) (empty_room c.self.inside.config c.args.document.now c.words-words.ensures.setting) in
    let full = c.in-Err.ensures.full.0 in
    cc (room, full)
