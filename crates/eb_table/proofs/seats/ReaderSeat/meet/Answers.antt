use Rattle.std.proofs.Common.{ap, sym, ◌∙◌}
use Rattle.eb_table.specs.Known.{Known}
use Rattle.eb_table.proofs.Meeting.{reader_meets}
use Rattle.eb_table.proofs.seats.ReaderSeat.meet.Goals as goal

pub returns-clause-least : goal.returns-clause-least
returns-clause-least c =
    (reader_meets _ c.args.self.now c.args.seat c.self.inside.seat.table_id c.seat.inside.seat.table_id c.self.inside.seat.me c.seat.inside.seat.me c.join.new.seat.me
    c.confirm.new.seat.me c.self.view_is c.seat.view_is c.requires.this c.requires.other c.join.ensures.met c.confirm.ensures.confirmed c.self.invariant)

pub returns-clause-made : goal.returns-clause-made
returns-clause-made c =
    let l =
    (reader_meets _ c.args.self.now c.args.seat c.self.inside.seat.table_id c.seat.inside.seat.table_id c.self.inside.seat.me c.seat.inside.seat.me c.join.new.seat.me
    c.confirm.new.seat.me c.self.view_is c.seat.view_is c.requires.this c.requires.other c.join.ensures.met c.confirm.ensures.confirmed c.self.invariant) in
    record {
      table = c.confirm.ensures.same ∙ c.join.ensures.same ∙ ap (λ (k : Known). k.table) c.self.view_is ∙ c.requires.this.table;
      setting = sym l.first.setting ∙ c.requires.this.setting;
      moment = l.moment;
    }
