use Rattle.std.proofs.Common.{◌+◌, ◌++◌, List, ℕ, refl, ap, ◌∙◌, arith}
use Rattle.eb_lines.specs.Text.{refusal_line, watch_line}
use Rattle.run_store.proofs.Taking.{holding_of, takes_document, takes_unplaced, few_refused}
use Rattle.run_store.proofs.answering.Answering.add.Goals as goal

pub told-requires : goal.told-requires
told-requires g c = holding_of g.S.Store.other g.S.Store.holds c.args.self.now c.requires.state

pub place-requires : goal.place-requires
place-requires g c = holding_of g.S.Store.other g.S.Store.holds c.args.self.now c.requires.state

pub overflow_add-self-in-Some : goal.overflow_add-self-in-Some
overflow_add-self-in-Some g c = let r = c.requires.state in let few = few_refused g.S.Store.other g.S.Store.holds c.args.self.now r.0 r.1 r.2 r.3 in omega (arith, few, c.requires.number)

pub returns-in-Some-clause-ok : goal.returns-in-Some-clause-ok
returns-in-Some-clause-ok g c =
    takes_unplaced g.S.Store.other g.S.Store.holds c.args.self.now _ refl c.form-form.result c.form-form.ensures c.args.document.now c.in-Some.refusal _ _ c.in-Some.ensures refl
    c.requires.number refl refl
    (c.put_refusal.ensures.text ∙ ap (λ (t : List ℕ). t ++ refusal_line c.form-form.result (c.args.self.now.number + 1) c.in-Some.refusal) c.in_ok-reserve.ensures.items)

pub returns-clause-ok : goal.returns-clause-ok
returns-clause-ok g c =
    takes_document g.S.Store.other g.S.Store.holds c.args.self.now _ refl c.form-form.result c.form-form.ensures c.args.document.now c.in_ok-told.told.items _ _
    c.in_default.ensures c.in_ok-told.ensures.told refl c.requires.number refl refl
    (c.put_watches.ensures.text
    ∙ ap (λ (ns : List ℕ). c.reserve.new.self.items ++ watch_line c.form-form.result (c.args.self.now.number + 1) ns) c.as_slice.ensures.value
    ∙ ap (λ (t : List ℕ). t ++ watch_line c.form-form.result (c.args.self.now.number + 1) c.in_ok-told.told.items) c.in_ok-reserve.ensures.items)

pub form-form-requires : goal.form-form-requires
form-form-requires g c = holding_of g.S.Store.other g.S.Store.holds c.args.self.now c.requires.state
