use Rattle.std.proofs.Common.{◌%◌, ◌∙◌, Some, length, refl, ap, sym, subst}
use Rattle.eb_lines.specs.declared.refusal.Refusal.{Refusal}
use Rattle.eb_blend.specs.Parts.{WriterTokens, IsCaughtUp}
use Rattle.run_over_parts.specs.declared.store.Store.{Store}
use Rattle.run_over_parts.specs.Stores.{WithPlaced}
use Rattle.run_over_parts.proofs.Placings.{placed, not_placed}
use Rattle.run_over_parts.proofs.store.Store.add.Goals as goal

pub returns-in-Ok : goal.returns-in-Ok
returns-in-Ok g c = λ parts σ docs h.
    let old : Store = c.args.self.now in
    let d = c.args.document.now in
    let ok = c.in-Ok.ensures.ok in
    let e = c.catch_up.ensures in
    let caught = subst (λ (w : WriterTokens). IsCaughtUp old.blend.setting w.histories (d.id % length w.histories) old.converter c.catch_up.new.converter) (sym e.this)
    (e.last d.id (ap (λ (w : WriterTokens). w.last) ok.2)) in
    placed old _ parts σ docs d h ok.0 ok.1 refl (e.this ∙ ok.2) e.indexes e.parts caught

pub returns-in-Err : goal.returns-in-Err
returns-in-Err g c = λ parts σ docs h.
    let old : Store = c.args.self.now in
    let new : Store = record { blend = old.blend; writer = c.add.new.self; converter = old.converter } in
    let W : Refusal → Type 0 = λ r. WithPlaced new parts σ docs c.args.document.now (Some r) in
    subst W (sym c.refused.ensures) (not_placed old new parts σ docs c.args.document.now c.in-Err.refusal h c.in-Err.ensures.refused
    (λ i. let s : Store = record { blend = old.blend; writer = c.in-Err.ensures.unchanged i; converter = old.converter } in s))
