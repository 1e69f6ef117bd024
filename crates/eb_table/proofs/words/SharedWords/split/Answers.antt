use Rattle.std.proofs.Common.{ap, sym, ◌∙◌, arith}
use Rattle.eb_table.specs.Known.{Words}
use Rattle.eb_table.proofs.Splitting.{splits}
use Rattle.eb_table.proofs.words.SharedWords.split.Goals as goal

pub split_seat-requires : goal.split_seat-requires
split_seat-requires c =
    let i = c.self.invariant in (
      c.requires.made ∙ sym (ap (λ (w : Words). w.table) c.self.view_is),
      omega (arith, i.1),
      splits c.self.inside.table.shared.key c.args.seat.now.id c.args.seat.now.me.0 c.requires.live.0,
    )
