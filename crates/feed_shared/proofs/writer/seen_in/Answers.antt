use Rattle.std.proofs.Common.{◌≡◌, length, ap, sym, ◌∙◌, ◌-◌, ◌^◌, min, arith}
use Rattle.feed_shared.specs.Turns.{PieceToken}
use Rattle.feed_shared.proofs.Counting.{known_in, known_next, known_held}
use Rattle.feed_shared.proofs.writer.seen_in.Goals as goal

pub loop-at-preserved : goal.loop-at-preserved
loop-at-preserved c =
    let r = c.index-pieces-at.result in
    let next = known_next c.loop-at.at c.args.pieces.now r (omega arith) in
    let here = ap (λ (p : PieceToken). length p.docs) c.index-pieces-at.is in
    omega (arith, next, here, c.loop-at.invariant)

pub returns : goal.returns
returns c = λ docs ts h.
    let ps = c.args.pieces.now in
    let over : c.loop-at.at ≡ length ps = omega arith in
    c.loop-at.invariant ∙ ap (λ n. min (known_in n ps) (2 ^ 64 - 1)) over ∙ ap (λ n. min n (2 ^ 64 - 1)) (sym (known_held ps docs ts h))
