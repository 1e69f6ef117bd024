use Rattle.std.proofs.Common.{◌≡◌, refl, sym, subst, ◌∙◌}
use Rattle.eb_watch.specs.Seen.{watches_of}
use Rattle.eb_watch.specs.declared.watches.Watches.{Watches as Set}
use Rattle.eb_c.specs.declared.held.Held.TheVariants.{Watches}
use Rattle.eb_c.specs.Watching.{HasRemoved}
use Rattle.eb_c.proofs.watching.remove_held.Goals as goal

pub returns-clause-removed : goal.returns-clause-removed
returns-clause-removed c = λ w e.
    let ws = c.in-Watches.watches in
    let vs = c.remove_in.new.watches in
    let found : Watches ws ≡ Watches w = sym c.in-Watches.is ∙ e in
    let same : ws ≡ w = cc found in
    (vs, refl, subst (λ (v : Set). HasRemoved (watches_of v) c.args.number c.remove_in.result (watches_of vs)) same c.remove_in.ensures)
