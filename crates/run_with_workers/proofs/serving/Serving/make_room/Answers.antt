use Rattle.std.proofs.Common.{refl}
use Rattle.run_with_workers.proofs.Servings.{goes_running, on_on, room_on}
use Rattle.run_with_workers.proofs.serving.Serving.make_room.Goals as goal

pub wait_down-requires : goal.wait_down-requires
wait_down-requires g c = record {
  running = goes_running g.O.Office.holds g.O.Office.asked c.args.self.now c.print_there.new.self c.args.text.now.items
      c.print_there.new.text.items c.requires.running c.print_there.ensures;
}

pub returns-in_err-wait_down-clause-on : goal.returns-in_err-wait_down-clause-on
returns-in_err-wait_down-clause-on g c =
    on_on g.O.Office.holds g.O.Office.asked c.args.self.now c.print_there.new.self c.wait_down.new.self c.args.text.now.items c.print_there.new.text.items
    c.wait_down.new.text.items c.print_there.ensures c.wait_down.ensures.on

pub returns-in_err-reserve-clause-on : goal.returns-in_err-reserve-clause-on
returns-in_err-reserve-clause-on g c =
    let t = c.wait_down.new.text.items in
    let on = on_on g.O.Office.holds g.O.Office.asked c.args.self.now c.print_there.new.self c.wait_down.new.self c.args.text.now.items c.print_there.new.text.items t
    c.print_there.ensures c.wait_down.ensures.on in
    room_on g.O.Office.holds g.O.Office.asked c.args.self.now c.wait_down.new.self _ c.args.text.now.items t on refl refl refl refl refl c.in_err-reserve.ensures.items

pub returns-clause-on : goal.returns-clause-on
returns-clause-on g c =
    let t = c.wait_down.new.text.items in
    let on = on_on g.O.Office.holds g.O.Office.asked c.args.self.now c.print_there.new.self c.wait_down.new.self c.args.text.now.items c.print_there.new.text.items t
    c.print_there.ensures c.wait_down.ensures.on in
    room_on g.O.Office.holds g.O.Office.asked c.args.self.now c.wait_down.new.self _ c.args.text.now.items t on refl refl refl refl refl c.in_ok-reserve.ensures.items
