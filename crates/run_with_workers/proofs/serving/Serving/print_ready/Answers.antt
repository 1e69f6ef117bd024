use Rattle.eb_lines.proofs.Runs.{stays}
use Rattle.run_with_workers.specs.Serving.{HasServed}
use Rattle.run_with_workers.proofs.Servings.{on_on, goes_running}
use Rattle.run_with_workers.proofs.serving.Serving.print_ready.Goals as goal

pub ready-init : goal.ready-init
ready-init g c = stays (HasServed g.O.Office.holds g.O.Office.asked) c.args.self.now c.args.text.now.items

pub print_next-requires : goal.print_next-requires
print_next-requires g c = record { running = goes_running g.O.Office.holds g.O.Office.asked c.args.self.now c.ready.self c.args.text.now.items c.ready.text.items c.requires.running c.ready.invariant }

pub returns-in_err-print_next : goal.returns-in_err-print_next
returns-in_err-print_next g c =
    record {
      on = on_on g.O.Office.holds g.O.Office.asked c.args.self.now c.ready.self c.print_next.new.self c.args.text.now.items c.ready.text.items
          c.print_next.new.text.items c.ready.invariant c.print_next.ensures.on;
    }

pub ready-preserved : goal.ready-preserved
ready-preserved g c = on_on g.O.Office.holds g.O.Office.asked c.args.self.now c.ready.self c.print_next.new.self c.args.text.now.items c.ready.text.items
    c.print_next.new.text.items c.ready.invariant c.print_next.ensures.on

pub returns : goal.returns
returns g c = record {
  on = on_on g.O.Office.holds g.O.Office.asked c.args.self.now c.ready.self c.print_next.new.self c.args.text.now.items c.ready.text.items
      c.print_next.new.text.items c.ready.invariant c.print_next.ensures.on;
}
