use Rattle.std.proofs.Common.{length, get_or, ap, arith}
use Rattle.feed_shared.specs.Turns.{PieceToken}
use Rattle.feed_shared.proofs.Helds.{set_back}
use Rattle.feed_shared.proofs.TakenIn.{knows_all, any_default, same_token}
use Rattle.feed_shared.proofs.reader.covers.Goals as goal

pub returns-clause-same : goal.returns-clause-same
returns-clause-same c =
    let d = c.index-pieces-at-2.result in
    let ps = c.args.pieces.now in
    let x = c.meet.new.self in
    let few = ap (λ (t : PieceToken). length t.docs) (any_default ps c.args.at c.index-pieces-at.result d c.requires.place) in
    let same = knows_all (get_or ps c.args.at d).docs x.docs c.args.reader.docs c.meet.ensures.this c.meet.ensures.longer
    (omega (arith, c.if-seen.false, c.seen.ensures, c.seen-2.ensures, ap (λ (t : PieceToken). length t.docs) c.index-pieces-at.is, few)) in
    set_back ps c.args.at x d c.requires.place (same_token x (get_or ps c.args.at d) c.meet.ensures.index same)
