use Rattle.std.proofs.Common.{ap, sym, ◌∙◌}
use Rattle.eb_table.specs.Known.{Known}
use Rattle.eb_table.proofs.Meeting.{writer_meets}
use Rattle.eb_table.proofs.seats.WriterSeat.meet.Goals as goal

pub returns-clause-least : goal.returns-clause-least
returns-clause-least c =
    (writer_meets _ c.args.self.now c.args.seat c.self.inside.seat.table_id c.seat.inside.seat.table_id c.self.inside.seat.me c.seat.inside.seat.me c.join.new.seat.me
    c.confirm.new.seat.me c.self.view_is c.seat.view_is c.requires.this c.requires.other c.join.ensures.met c.confirm.ensures.confirmed c.self.invariant).0

pub returns-clause-documents : goal.returns-clause-documents
returns-clause-documents c =
    (writer_meets _ c.args.self.now c.args.seat c.self.inside.seat.table_id c.seat.inside.seat.table_id c.self.inside.seat.me c.seat.inside.seat.me c.join.new.seat.me
    c.confirm.new.seat.me c.self.view_is c.seat.view_is c.requires.this c.requires.other c.join.ensures.met c.confirm.ensures.confirmed c.self.invariant).1

pub returns-clause-made : goal.returns-clause-made
returns-clause-made c =
    let l =
    (writer_meets _ c.args.self.now c.args.seat c.self.inside.seat.table_id c.seat.inside.seat.table_id c.self.inside.seat.me c.seat.inside.seat.me c.join.new.seat.me
    c.confirm.new.seat.me c.self.view_is c.seat.view_is c.requires.this c.requires.other c.join.ensures.met c.confirm.ensures.confirmed c.self.invariant).0 in
    record {
      table = c.confirm.ensures.same ∙ c.join.ensures.same ∙ ap (λ (k : Known). k.table) c.self.view_is ∙ c.requires.this.table;
      setting = sym l.first.setting ∙ c.requires.this.setting;
      moment = l.moment;
    }
