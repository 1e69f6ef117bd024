use Rattle.run_store.proofs.Taking.{holding_of, few_held, answering_ends}
use Rattle.run_store.proofs.answering.AnsweringLineProgram.finish.Goals as goal

pub documents-documents-requires : goal.documents-documents-requires
documents-documents-requires g c = holding_of g.S.Store.other g.S.Store.holds c.args.self.now c.requires.running

pub close-requires : goal.close-requires
close-requires g c = holding_of g.S.Store.other g.S.Store.holds c.args.self.now c.requires.running

pub returns-clause-ok : goal.returns-clause-ok
returns-clause-ok g c = λ rules given so_far h.
    answering_ends g.S.Store.other g.S.Store.holds c.args.self.now c.form-form.result c.form-form.ensures _ _ _ _ rules given so_far h
    (c.documents-documents.ensures rules _ _ h.store (few_held g.S.Store.other g.S.Store.holds c.args.self.now rules given so_far h))
    (c.in_ok-tail.ensures rules _ _ h.store) c.in_ok-put_summary.ensures.ok

pub form-form-requires : goal.form-form-requires
form-form-requires g c = holding_of g.S.Store.other g.S.Store.holds c.args.self.now c.requires.running
