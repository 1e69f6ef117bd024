use Rattle.std.proofs.Common.{refl, arith}
use Rattle.eb_place.proofs.LaterMoments.{later_self}
use Rattle.eb_block.proofs.Standing.{near_below}
use Rattle.eb_block.proofs.packed_list.PackedList.seek_near.Goals as goal

pub returns-then-self-most-clause-near : goal.returns-then-self-most-clause-near
returns-then-self-most-clause-near g c =
    let r = c.requires in
    near_below c.args.self.now c.args.most r.6.reads.bounds c.if-self-most.true (omega arith)

pub returns-then-self-most-clause-told : goal.returns-then-self-most-clause-told
returns-then-self-most-clause-told g c = λ s t rest b. record { told = λ m st h. (m, st, later_self m, g.met.P.Port.keeps_itself c.args.port.now m st, (rest, b, h, omega arith, refl)) }
