use Rattle.std.proofs.Common.{refl}
use Rattle.run_with_workers.proofs.Servings.{holding_of, further_items, further_both, further_running}
use Rattle.run_with_workers.proofs.serving.Serving.take_there.Goals as goal

pub take-requires : goal.take-requires
take-requires g c = holding_of g.O.Office.holds g.O.Office.asked c.args.self.now c.requires.running

pub take_in-requires-clause-running : goal.take_in-requires-clause-running
take_in-requires-clause-running g c =
    let H = g.O.Office.holds in
    let B = g.O.Office.asked in
    further_running H B c.args.self.now _ c.requires.running (further_items H B c.args.self.now _ c.take.ensures.keeps c.take.ensures.same refl refl refl refl refl)

pub returns-in-None : goal.returns-in-None
returns-in-None g c = further_items g.O.Office.holds g.O.Office.asked c.args.self.now _ c.take.ensures.keeps c.take.ensures.same refl refl refl refl refl

pub returns-in-Some : goal.returns-in-Some
returns-in-Some g c =
    let H = g.O.Office.holds in
    let B = g.O.Office.asked in
    further_both H B c.args.self.now _ c.take_in.new.self (further_items H B c.args.self.now _ c.take.ensures.keeps c.take.ensures.same refl refl refl refl refl) c.take_in.ensures
