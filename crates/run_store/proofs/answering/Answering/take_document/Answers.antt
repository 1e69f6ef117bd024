use Rattle.std.proofs.Common.{refl}
use Rattle.eb_lines.proofs.Results.{err_on, err_any}
use Rattle.eb_lines.proofs.Runs.{stays_at}
use Rattle.run_store.specs.Answering.{HasAnswered}
use Rattle.run_store.proofs.Taking.{kept, keeps_on}
use Rattle.run_store.proofs.answering.Answering.take_document.Goals as goal

pub returns-in_err-document-clause-err : goal.returns-in_err-document-clause-err
returns-in_err-document-clause-err g c = err_any c.from_residual.result (keeps_on g.S.Store.other g.S.Store.holds c.args.self.now _ _ _ refl (λ rules docs ws h. h) refl refl refl refl)

pub add-requires-clause-state : goal.add-requires-clause-state
add-requires-clause-state g c =
    let r = c.requires.state in (r.0, r.1, r.2, kept g.S.Store.other g.S.Store.holds c.args.self.now _ refl (λ rules docs ws h. h) refl refl refl r.0 r.1 r.2 r.3)

pub refuse-requires-clause-state : goal.refuse-requires-clause-state
refuse-requires-clause-state g c =
    let r = c.requires.state in (r.0, r.1, r.2, kept g.S.Store.other g.S.Store.holds c.args.self.now _ refl (λ rules docs ws h. h) refl refl refl r.0 r.1 r.2 r.3)

pub returns-in-Ok-clause-err : goal.returns-in-Ok-clause-err
returns-in-Ok-clause-err g c = err_on c.add.result c.add.ensures.err (λ e rules given so_far h.
    stays_at (HasAnswered g.S.Store.other g.S.Store.holds) _ c.add.new.self _ _ e.0 e.1 rules given so_far
    (kept g.S.Store.other g.S.Store.holds c.args.self.now _ refl (λ rules docs ws x. x) refl refl refl rules given so_far h))

pub returns-in-Err-clause-err : goal.returns-in-Err-clause-err
returns-in-Err-clause-err g c = err_on c.refuse.result c.refuse.ensures.err (λ e rules given so_far h.
    stays_at (HasAnswered g.S.Store.other g.S.Store.holds) _ c.refuse.new.self _ _ e.0 e.1 rules given so_far
    (kept g.S.Store.other g.S.Store.holds c.args.self.now _ refl (λ rules docs ws x. x) refl refl refl rules given so_far h))
