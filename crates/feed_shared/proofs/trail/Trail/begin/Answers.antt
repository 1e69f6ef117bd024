use Rattle.std.proofs.Common.{sym, ◌∙◌, ap}
use Rattle.feed_shared.specs.Turns.{TrailToken, turn}
use Rattle.feed_shared.proofs.Adding.{begins_moves}
use Rattle.feed_shared.proofs.trail.Trail.begin.Goals as goal

pub compare_exchange-found-requires : goal.compare_exchange-found-requires
compare_exchange-found-requires c =
    let h = c.head.invariant in
    let offer = c.plain-offer.ensures in
    let pen = c.no_pen-pen.ensures in
    let book = ap (λ (t : TrailToken). t.book) c.self.view_is ∙ (sym c.requires ∙ sym c.head.view_is) in (
      ap (λ w. w.tracked) h,
      book,
      pen.0 ∙ book,
      offer.0,
      rw (ap (λ w. w.key) h, pen.1, offer.1, offer.3)
          (begins_moves c.self.inside.seen.log (turn c.args.pair.now.begun.index c.args.pair.now.closed.docs) c.self.inside.count (sym c.self.invariant)),
    )
