use Rattle.run_with_workers.proofs.Endings.{served_ends}
use Rattle.run_with_workers.proofs.Servings.{holding_of}
use Rattle.run_with_workers.proofs.serving.Serving.finish.Goals as goal

pub form-form-requires : goal.form-form-requires
form-form-requires g c = holding_of g.O.Office.holds g.O.Office.asked c.args.self.now c.requires.running

pub documents-documents-requires : goal.documents-documents-requires
documents-documents-requires g c = holding_of g.O.Office.holds g.O.Office.asked c.args.self.now c.requires.running

pub close-tail-requires : goal.close-tail-requires
close-tail-requires g c = holding_of g.O.Office.holds g.O.Office.asked c.args.self.now c.requires.running

pub returns-clause-ok : goal.returns-clause-ok
returns-clause-ok g c = λ rules given so_far h.
    served_ends g.O.Office.holds g.O.Office.asked c.args.self.now c.form-form.result c.form-form.ensures _ _ _ _ c.in_ok-put_summary.ensures.ok c.documents-documents.ensures c.close-tail.ensures
    c.requires.settled rules given so_far h
