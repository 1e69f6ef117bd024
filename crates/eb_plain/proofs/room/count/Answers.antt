use Rattle.std.proofs.Common.{arith, ap, ◌∙◌}
use Rattle.eb_place.specs.Postings.{count_of}
use Rattle.eb_plain.proofs.Recounts.{count_next, count_all, as_number}
use Rattle.eb_plain.proofs.room.count.Goals as goal
use Rattle.eb_plain.proofs.room.count.Goals.{then-eq, else-eq}

pub loop-own-preserved : goal.loop-own-preserved
loop-own-preserved c =
    let t = c.args.term.now in
    let inv = c.loop-own.invariant in
    let next = count_next t c.own-item.result c.as_slice-own-items.result.now c.loop-own.own-index c.loop-own-test.true c.own-item.is in
    let tested = ap as_number c.eq.ensures in
    elim c.if-eq.branch [
      | then-eq w ↦
          let one = ap as_number w.if-eq.true in
          record { counted = omega (arith, next, tested, one, inv.counted, w.count-is); few = omega (arith, inv.few, w.count-is) }
      | else-eq w ↦
          let none = ap as_number w.if-eq.false in
          record { counted = omega (arith, next, tested, none, inv.counted, w.count-is); few = omega (arith, inv.few, w.count-is) }
    ]

pub returns-clause-count : goal.returns-clause-count
returns-clause-count c =
    count_all c.args.term.now c.as_slice-own-items.result.now c.loop-own.own-index c.loop-own.count c.loop-own-test.false c.loop-own.invariant.counted
    ∙ ap (count_of c.args.term.now) c.as_slice-own-items.ensures
