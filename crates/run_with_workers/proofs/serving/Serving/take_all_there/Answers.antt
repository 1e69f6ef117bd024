use Rattle.run_with_workers.proofs.Servings.{further_both, further_running}
use Rattle.run_with_workers.proofs.serving.Serving.take_all_there.Goals as goal

pub take_there-requires : goal.take_there-requires
take_there-requires g c = record { running = further_running g.O.Office.holds g.O.Office.asked c.args.self.now c.loop.self c.requires.running c.loop.invariant }

pub loop-preserved : goal.loop-preserved
loop-preserved g c = further_both g.O.Office.holds g.O.Office.asked c.args.self.now c.loop.self c.take_there.new.self c.loop.invariant c.take_there.ensures
