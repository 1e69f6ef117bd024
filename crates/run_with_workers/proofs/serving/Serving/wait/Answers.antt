use Rattle.std.proofs.Common.{refl}
use Rattle.run_with_workers.proofs.Servings.{holding_of, further_items, further_both, further_running}
use Rattle.run_with_workers.proofs.serving.Serving.wait.Goals as goal

pub wait-answer-requires : goal.wait-answer-requires
wait-answer-requires g c = holding_of g.O.Office.holds g.O.Office.asked c.args.self.now c.requires.running

pub take_in-requires-clause-running : goal.take_in-requires-clause-running
take_in-requires-clause-running g c =
    let H = g.O.Office.holds in
    let B = g.O.Office.asked in
    further_running H B c.args.self.now _ c.requires.running (further_items H B c.args.self.now _ c.wait-answer.ensures.keeps c.wait-answer.ensures.same refl refl refl refl refl)

pub returns : goal.returns
returns g c =
    let H = g.O.Office.holds in
    let B = g.O.Office.asked in
    further_both H B c.args.self.now _ c.take_in.new.self (further_items H B c.args.self.now _ c.wait-answer.ensures.keeps c.wait-answer.ensures.same refl refl refl refl refl) c.take_in.ensures
