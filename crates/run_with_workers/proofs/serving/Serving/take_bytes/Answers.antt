use Rattle.std.proofs.Common.{ℕ, List, refl, sym, subst}
use Rattle.eb_lines.specs.declared.refusal.Refusal.TheVariants.{BadLine}
use Rattle.eb_lines.specs.Kinds.{Kind, query_line}
use Rattle.eb_lines.specs.Reading.{blank, refused}
use Rattle.eb_lines.proofs.Results.{ok_on}
use Rattle.run_with_workers.specs.Serving.{TakesRead}
use Rattle.run_with_workers.proofs.serving.Serving.take_bytes.Goals as goal

pub returns-in-Blank-clause-ok : goal.returns-in-Blank-clause-ok
returns-in-Blank-clause-ok g c =
    subst (λ (k : Kind). TakesRead g.O.Office.holds g.O.Office.asked c.args.self.now c.pass.new.self k c.args.bytes.now) (sym c.in-Blank.ensures) (blank, refl, c.pass.ensures)

pub returns-in-Document-clause-ok : goal.returns-in-Document-clause-ok
returns-in-Document-clause-ok g c = ok_on c.take_document.result c.take_document.ensures.ok
    (λ taken. subst (λ (k : Kind). TakesRead g.O.Office.holds g.O.Office.asked c.args.self.now c.take_document.new.self k c.args.bytes.now) (sym c.in-Document.ensures) taken)

pub returns-in-Query-clause-ok : goal.returns-in-Query-clause-ok
returns-in-Query-clause-ok g c =
    let is = c.in-Query.ensures in
    let T : Kind → List ℕ → Type 0 = λ k b. TakesRead g.O.Office.holds g.O.Office.asked c.args.self.now c.take_query.new.self k b in
    ok_on c.take_query.result c.take_query.ensures.ok (λ taken. subst (λ k. T k c.args.bytes.now) (sym is.0) (subst (T query_line) is.1 taken))

pub returns-in-Bad-clause-ok : goal.returns-in-Bad-clause-ok
returns-in-Bad-clause-ok g c =
    subst (λ (k : Kind). TakesRead g.O.Office.holds g.O.Office.asked c.args.self.now c.refuse.new.self k c.args.bytes.now) (sym c.in-Bad.ensures) (refused BadLine, refl, c.refuse.ensures)
