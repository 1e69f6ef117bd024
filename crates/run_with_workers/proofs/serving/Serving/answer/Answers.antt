use Rattle.std.proofs.Common.{sym, subst}
use Rattle.std.specs.Prelude.{OnOk}
use Rattle.eb_base.specs.Query.{tree}
use Rattle.eb_query.specs.declared.ask.Ask.{Ask}
use Rattle.eb_lines.specs.Reading.{query}
use Rattle.run_with_workers.specs.Serving.{TakesLine}
use Rattle.run_with_workers.proofs.serving.Serving.answer.Goals as goal

pub returns-in-Newest-clause-ok : goal.returns-in-Newest-clause-ok
returns-in-Newest-clause-ok g c =
    subst (λ (a : Ask). OnOk c.ask.result (TakesLine g.O.Office.holds g.O.Office.asked c.args.self.now c.ask.new.self (query a (tree c.args.query)))) (sym c.in-Newest.is) c.ask.ensures.ok

pub returns-in-Counts-clause-ok : goal.returns-in-Counts-clause-ok
returns-in-Counts-clause-ok g c =
    subst (λ (a : Ask). OnOk c.count.result (TakesLine g.O.Office.holds g.O.Office.asked c.args.self.now c.count.new.self (query a (tree c.args.query)))) (sym c.in-Counts.is) c.count.ensures.ok
