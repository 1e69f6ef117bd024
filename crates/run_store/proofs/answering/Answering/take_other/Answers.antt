use Rattle.eb_fields.specs.Dialect.{dialect_of}
use Rattle.std.proofs.Common.{◌+◌, ◌++◌, List, ℕ, Option, refl, ap, subst, ◌∙◌, arith}
use Rattle.eb_io.specs.Lines.{line}
use Rattle.eb_lines.specs.declared.refusal.Refusal.{Refusal}
use Rattle.eb_lines.specs.Kinds.{bad_line}
use Rattle.eb_lines.specs.Text.{refusal_line}
use Rattle.run_store.specs.Stores.{TakesOther}
use Rattle.eb_lines.proofs.Results.{err_any}
use Rattle.run_store.proofs.ByKind.{reads_with}
use Rattle.run_store.proofs.Taking.{holding_of, takes_other, refuses_other, keeps_on, few_refused}
use Rattle.run_store.proofs.answering.Answering.take_other.Goals as goal

pub take_other-requires-clause-state : goal.take_other-requires-clause-state
take_other-requires-clause-state g c = holding_of g.S.Store.other g.S.Store.holds c.args.self.now c.requires.state

pub overflow_add-self-in-Some-2 : goal.overflow_add-self-in-Some-2
overflow_add-self-in-Some-2 g c = let r = c.requires.state in let few = few_refused g.S.Store.other g.S.Store.holds c.args.self.now r.0 r.1 r.2 r.3 in omega (arith, few, c.requires.number)

pub returns-in-None-clause-ok : goal.returns-in-None-clause-ok
returns-in-None-clause-ok g c =
    let bytes = c.args.bytes.now in
    let own = c.in_ok-take_other.ensures.ok in
    let T : Option Refusal → Type 0 = λ x. TakesOther g.S.Store.holds c.args.self.now.store c.take_other.new.self own.0 x in
    takes_other g.S.Store.other g.S.Store.holds c.args.self.now _ refl own.0 _ _ (subst T c.in-None.is own.2) refl c.requires.number refl refl c.in_ok-reserve.ensures.items
    (line bytes) (reads_with g.S.Store.other (dialect_of c.args.self.now.dialect) bytes bad_line own.0 c.requires.kind own.1)

pub returns-in-Some-clause-ok : goal.returns-in-Some-clause-ok
returns-in-Some-clause-ok g c =
    let bytes = c.args.bytes.now in
    let own = c.in_ok-take_other.ensures.ok in
    let T : Option Refusal → Type 0 = λ x. TakesOther g.S.Store.holds c.args.self.now.store c.take_other.new.self own.0 x in
    refuses_other g.S.Store.other g.S.Store.holds c.args.self.now _ refl c.form-form.result c.form-form.ensures own.0 c.in-Some.refusal _ _ (subst T c.in-Some.is own.2) refl
    c.requires.number refl refl
    (c.put_refusal.ensures.text ∙ ap (λ (t : List ℕ). t ++ refusal_line c.form-form.result (c.args.self.now.number + 1) c.in-Some.refusal) c.in_ok-reserve.ensures.items)
    (line bytes) (reads_with g.S.Store.other (dialect_of c.args.self.now.dialect) bytes bad_line own.0 c.requires.kind own.1)

pub returns-in_err-reserve-clause-err : goal.returns-in_err-reserve-clause-err
returns-in_err-reserve-clause-err g c =
    err_any c.from_residual.result (keeps_on g.S.Store.other g.S.Store.holds c.args.self.now c.args.self.now _ _ refl (λ rules docs ws h. h) refl refl refl c.in_err-reserve.ensures.items)

pub returns-in_err-take_other-clause-err : goal.returns-in_err-take_other-clause-err
returns-in_err-take_other-clause-err g c =
    err_any c.from_residual-in_err-take_other.result (keeps_on g.S.Store.other g.S.Store.holds c.args.self.now _ _ _ refl c.in_err-take_other.ensures.err refl refl refl c.in_ok-reserve.ensures.items)

pub form-form-requires : goal.form-form-requires
form-form-requires g c = holding_of g.S.Store.other g.S.Store.holds c.args.self.now c.requires.state
