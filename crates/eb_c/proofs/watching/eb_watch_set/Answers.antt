use Rattle.std.proofs.Common.{rules, ◌≡◌, Some, ap, subst, sym, ◌∙◌}
use Rattle.eb_c.specs.declared.held.Held.{Held}
use Rattle.eb_c.specs.declared.held.Held.TheVariants.{Watches}
use Rattle.eb_c.specs.Asking.{parsed_of}
use Rattle.eb_c.proofs.Sharings.{leads_to}
use Rattle.eb_c.proofs.watching.eb_watch_set.Goals as goal

pub returns-clause-set : goal.returns-clause-set
returns-clause-set c = λ w e.
    let was = leads_to c.in-Some.ensures.held e in
    let f = c.set_held-done.ensures.set w (subst (λ (v : Held). v ≡ Watches w) (sym c.deref_mut.ensures.value) was) in
    let now : c.of.result.seal.held ≡ Some c.set_held-done.new.held = search rules in
    (f.0, now ∙ ap (λ v. Some v) f.1, (parsed_of c.parsed_in_text_as.result, c.parsed_in_text_as.ensures, f.2))
