use Rattle.std.proofs.Common.{Bool, ap, subst}
use Rattle.run_images.proofs.Takings.{takes_end, takes_part, takes_full, takes_fault}
use Rattle.std.specs.Prelude.{Ok, Err}
use Rattle.std.proofs.lemmas.Result.{err_from_is_err_and}
use Rattle.run_index.specs.Indexed.{WithPlaced}
use Rattle.run_images.proofs.image.take_part.Goals as goal

pub returns-in_err-next-clause-next : goal.returns-in_err-next-clause-next
returns-in_err-next-clause-next g c = λ σ docs first allowed h.
    let p = err_from_is_err_and c.from_residual.result c.from_residual.ensures.1 in
    let own = c.in_err-next.ensures in
    rw (p.1, p.2) (takes_fault c.args.store.now σ docs first _ _ allowed h c.in_err-next.field-0.0
    (λ e. own.bad (ap Err e)) (λ e. let t = own.fault (ap Err e) in (t.0, t.1, t.2)) (λ e. let t = own.memory (ap Err e) in (t.0, t.2, t.1)))

pub returns-then-not-add-clause-next : goal.returns-then-not-add-clause-next
returns-then-not-add-clause-next g c = λ σ docs first allowed h.
    let P : Bool → Type 0 = WithPlaced c.add.new.self σ docs c.in-Some.document in
    let full = subst P c.if-not-add.true (c.add.ensures.placed σ docs h.store) in
    let part = rw c.in-Some.is at c.in_ok-next.ensures.part in
    takes_full c.args.store.now σ docs first _ _ allowed h c.in-Some.document part.0 part.1 full.0

pub returns-in-None-clause-next : goal.returns-in-None-clause-next
returns-in-None-clause-next g c = λ σ docs first allowed h. takes_end c.args.store.now σ docs first _ _ allowed h (c.in_ok-next.ensures.none (ap Ok c.in-None.is))

pub returns-else-not-add-clause-next : goal.returns-else-not-add-clause-next
returns-else-not-add-clause-next g c = λ σ docs first allowed h.
    let P : Bool → Type 0 = WithPlaced c.add.new.self σ docs c.in-Some.document in
    let placed = subst P c.if-not-add.false (c.add.ensures.placed σ docs h.store) in
    let part = rw c.in-Some.is at c.in_ok-next.ensures.part in
    (c.in-Some.document, takes_part c.args.store.now σ docs first _ _ allowed h c.add.new.self c.in-Some.document part.0 part.1 placed.0 placed.1)
