use Rattle.std.proofs.Common.{length, get_or, ap, arith}
use Rattle.feed_shared.specs.Turns.{PieceToken}
use Rattle.feed_shared.proofs.TakenIn.{knows_all, held_met, front_met, any_default}
use Rattle.feed_shared.proofs.reader.take_in.Goals.{else-at-gt0-via-then-at-gt0+else-seen, else-at-gt0-via-else-at-gt0}
use Rattle.feed_shared.proofs.reader.take_in.Goals as goal

pub returns-clause-held : goal.returns-clause-held
returns-clause-held c = λ docs ts h.
    let d = c.index-pieces-at-2.result in
    let ps = c.args.pieces.now in
    let x = c.meet.new.self in
    held_met ps docs ts c.args.at x d h c.requires.place c.meet.ensures.index
    (λ above. elim c.else-at-gt0.branch [
      | else-at-gt0-via-then-at-gt0+else-seen w ↦
          knows_all (get_or ps c.args.at d).docs x.docs c.args.reader.docs c.meet.ensures.this c.meet.ensures.longer
          (omega (
            arith,
            w.if-seen.false,
            w.seen.ensures,
            w.seen-then-at-gt0.ensures,
            ap (λ (t : PieceToken). length t.docs) w.index-pieces-at.is,
            ap (λ (t : PieceToken). length
                t.docs) (any_default ps c.args.at w.index-pieces-at.result d c.requires.place),
          ))
      | else-at-gt0-via-else-at-gt0 w ↦ absurd (omega (arith, w.if-at-gt0.false, above))
    ])

pub returns-clause-front : goal.returns-clause-front
returns-clause-front c = front_met c.args.pieces.now c.args.at c.meet.new.self c.index-pieces-at-2.result c.requires.place c.meet.ensures.this
