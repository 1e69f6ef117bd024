use Rattle.run_with_workers.proofs.Servings.{on_on, further_on, further_running}
use Rattle.run_with_workers.proofs.serving.Serving.print_there.Goals as goal

pub take_all_there-requires : goal.take_all_there-requires
take_all_there-requires g c = c.requires

pub print_ready-requires : goal.print_ready-requires
print_ready-requires g c = record { running = further_running g.O.Office.holds g.O.Office.asked c.args.self.now c.take_all_there.new.self c.requires.running c.take_all_there.ensures }

pub returns : goal.returns
returns g c =
    let t0 = c.args.text.now.items in
    on_on g.O.Office.holds g.O.Office.asked c.args.self.now c.take_all_there.new.self c.print_ready.new.self t0 t0 c.print_ready.new.text.items
    (further_on g.O.Office.holds g.O.Office.asked c.args.self.now c.take_all_there.new.self t0 c.take_all_there.ensures) c.print_ready.ensures.on
