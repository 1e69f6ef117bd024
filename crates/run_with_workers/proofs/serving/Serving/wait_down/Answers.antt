use Rattle.eb_lines.proofs.Runs.{stays}
use Rattle.run_with_workers.specs.Serving.{HasServed}
use Rattle.run_with_workers.proofs.Servings.{on_on, goes_running, further_on}
use Rattle.run_with_workers.proofs.serving.Serving.wait_down.Goals as goal

pub loop-init : goal.loop-init
loop-init g c = stays (HasServed g.O.Office.holds g.O.Office.asked) c.args.self.now c.args.text.now.items

pub print_ready-requires : goal.print_ready-requires
print_ready-requires g c = record { running = goes_running g.O.Office.holds g.O.Office.asked c.args.self.now c.loop.self c.args.text.now.items c.loop.text.items c.requires.running c.loop.invariant }

pub returns-in_err-print_ready-clause-on : goal.returns-in_err-print_ready-clause-on
returns-in_err-print_ready-clause-on g c =
    on_on g.O.Office.holds g.O.Office.asked c.args.self.now c.loop.self c.print_ready.new.self c.args.text.now.items c.loop.text.items c.print_ready.new.text.items
    c.loop.invariant c.print_ready.ensures.on

pub returns-then-len-unprinted-clause-on : goal.returns-then-len-unprinted-clause-on
returns-then-len-unprinted-clause-on g c =
    on_on g.O.Office.holds g.O.Office.asked c.args.self.now c.loop.self c.print_ready.new.self c.args.text.now.items c.loop.text.items c.print_ready.new.text.items
    c.loop.invariant c.print_ready.ensures.on

pub wait-requires : goal.wait-requires
wait-requires g c =
    let on = on_on g.O.Office.holds g.O.Office.asked c.args.self.now c.loop.self c.print_ready.new.self c.args.text.now.items c.loop.text.items
    c.print_ready.new.text.items c.loop.invariant c.print_ready.ensures.on in
    record { running = goes_running g.O.Office.holds g.O.Office.asked c.args.self.now c.print_ready.new.self c.args.text.now.items c.print_ready.new.text.items c.requires.running on }

pub loop-preserved : goal.loop-preserved
loop-preserved g c =
    let t = c.print_ready.new.text.items in
    let on = on_on g.O.Office.holds g.O.Office.asked c.args.self.now c.loop.self c.print_ready.new.self c.args.text.now.items c.loop.text.items t c.loop.invariant c.print_ready.ensures.on in
    on_on g.O.Office.holds g.O.Office.asked c.args.self.now c.print_ready.new.self c.wait.new.self c.args.text.now.items t t on
    (further_on g.O.Office.holds g.O.Office.asked c.print_ready.new.self c.wait.new.self t c.wait.ensures)
