use Rattle.std.proofs.Common.{ℕ, List, [], sym, subst}
use Rattle.eb_fields.specs.Dialect.{dialect_of}
use Rattle.run_with_workers.specs.Serving.{HasServed}
use Rattle.run_with_workers.proofs.Servings.{served_none}
use Rattle.run_with_workers.proofs.serve.serve_lines.Goals as goal

pub pass_lines-status-requires : goal.pass_lines-status-requires
pass_lines-status-requires g c =
    let r = c.requires in
    let n = c.new.ensures in
    let h = served_none g.O.Office.holds g.O.Office.asked c.new.result c.args.office (dialect_of c.args.dialect) r.0 r.1 n.office n.dialect n.number n.waiting in
    (r.0, subst (λ (t : List ℕ). HasServed g.O.Office.holds g.O.Office.asked c.new.result r.0 [] t) (sym c.new-2.ensures.items) h)

pub returns-clause-ends : goal.returns-clause-ends
returns-clause-ends g c = λ rules opens.
    let n = c.new.ensures in
    let h = served_none g.O.Office.holds g.O.Office.asked c.new.result c.args.office (dialect_of c.args.dialect) rules opens n.office n.dialect n.number n.waiting in
    c.pass_lines-status.ensures.ends rules (subst (λ (t : List ℕ). HasServed g.O.Office.holds g.O.Office.asked c.new.result rules [] t) (sym c.new-2.ensures.items) h)
