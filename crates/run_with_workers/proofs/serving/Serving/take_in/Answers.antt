use Rattle.run_with_workers.proofs.Servings.{holding_of, further_kept}
use Rattle.run_with_workers.proofs.serving.Serving.take_in.Goals as goal

pub settle-settled-requires-clause-state : goal.settle-settled-requires-clause-state
settle-settled-requires-clause-state g c = holding_of g.O.Office.holds g.O.Office.asked c.args.self.now c.requires.running

pub returns : goal.returns
returns g c =
    let H = g.O.Office.holds in
    let B = g.O.Office.asked in
    let s = c.settle-settled.ensures in
    let k = c.keep.ensures in
    further_kept H B c.args.self.now _ _ c.settle-settled.result s.keeps s.same k.office k.dialect k.counts.0 k.counts.1 k.counts.2 k.kept s.answers s.settled
