use Rattle.std.proofs.Common.{ap, sym, ◌∙◌, arith}
use Rattle.eb_table.specs.Known.{Words}
use Rattle.eb_table.proofs.Joining.{joins_at}
use Rattle.eb_table.proofs.words.SharedWords.join.Goals as goal

pub join_seat-requires : goal.join_seat-requires
join_seat-requires c =
    let i = c.self.invariant in
    let t = sym (ap (λ (w : Words). w.table) c.self.view_is) in
    let is = ap (λ me. me.0) c.requires.other in (
      c.requires.made.0 ∙ t,
      c.requires.made.1
          ∙ t,
      ap (λ me. me.1) c.requires.other,
      omega (arith, i.1),
      joins_at c.self.inside.table.shared.key c.args.seat.now.id c.args.other.id c.args.seat.now.me.0 c.args.other.me.0 c.requires.live.0 is,
    )
