use Rattle.std.proofs.Common.{◌+◌, ◌++◌, List, ℕ, refl, ap, ◌∙◌, arith}
use Rattle.eb_lines.specs.Text.{refusal_line}
use Rattle.run_store.proofs.Taking.{holding_of, takes_refused, few_refused}
use Rattle.run_store.proofs.answering.Answering.refuse.Goals as goal

pub overflow_add-self-2 : goal.overflow_add-self-2
overflow_add-self-2 g c = let r = c.requires.state in let few = few_refused g.S.Store.other g.S.Store.holds c.args.self.now r.0 r.1 r.2 r.3 in omega (arith, few, c.requires.number)

pub returns-clause-ok : goal.returns-clause-ok
returns-clause-ok g c = takes_refused g.S.Store.other g.S.Store.holds c.args.self.now _ refl c.form-form.result c.form-form.ensures c.args.refusal _ _ refl refl c.requires.number refl refl
    (c.put_refusal.ensures.text ∙ ap (λ (t : List ℕ). t ++ refusal_line c.form-form.result (c.args.self.now.number + 1) c.args.refusal) c.in_ok-reserve.ensures.items)

pub form-form-requires : goal.form-form-requires
form-form-requires g c = holding_of g.S.Store.other g.S.Store.holds c.args.self.now c.requires.state
