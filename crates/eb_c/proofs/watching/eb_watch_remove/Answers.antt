use Rattle.std.proofs.Common.{rules, ◌≡◌, Some, ap, subst, sym, ◌∙◌}
use Rattle.eb_c.specs.declared.held.Held.{Held}
use Rattle.eb_c.specs.declared.held.Held.TheVariants.{Watches}
use Rattle.eb_c.proofs.Sharings.{leads_to}
use Rattle.eb_c.proofs.watching.eb_watch_remove.Goals as goal

pub returns-clause-removed : goal.returns-clause-removed
returns-clause-removed c = λ w e.
    let was = leads_to c.in-Some.ensures.held e in
    let f = c.remove_held-done.ensures.removed w (subst (λ (v : Held). v ≡ Watches w) (sym c.deref_mut.ensures.value) was) in
    let now : c.of.result.seal.held ≡ Some c.remove_held-done.new.held = search rules in
    (f.0, now ∙ ap (λ v. Some v) f.1, f.2)
