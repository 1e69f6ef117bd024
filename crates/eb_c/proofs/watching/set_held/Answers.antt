use Rattle.std.proofs.Common.{◌≡◌, refl, sym, subst, ◌∙◌}
use Rattle.eb_watch.specs.Seen.{watches_of}
use Rattle.eb_watch.specs.declared.watches.Watches.{Watches as Set}
use Rattle.eb_c.specs.declared.held.Held.TheVariants.{Watches}
use Rattle.eb_c.specs.declared.parsed.Parsed.{Parsed}
use Rattle.eb_c.specs.Asking.{parsed_of}
use Rattle.eb_c.specs.Watching.{SetsAsked}
use Rattle.eb_c.proofs.watching.set_held.Goals as goal

pub returns-in-Asks-clause-set : goal.returns-in-Asks-clause-set
returns-in-Asks-clause-set c = λ w e.
    let ws = c.in-Watches.watches in
    let vs = c.set_in.new.watches in
    let found : Watches ws ≡ Watches w = sym c.in-Watches.is ∙ e in
    let same : ws ≡ w = cc found in
    let asked : SetsAsked (parsed_of c.args.parsed) (watches_of ws) c.args.number c.set_in.result 0 (watches_of vs) =
    subst (λ (s : Parsed). SetsAsked (parsed_of s) (watches_of ws) c.args.number c.set_in.result 0 (watches_of vs)) (sym c.in-Asks.is) (refl, c.set_in.ensures) in
    (vs, refl, subst (λ (v : Set). SetsAsked (parsed_of c.args.parsed) (watches_of v) c.args.number c.set_in.result 0 (watches_of vs)) same asked)

pub returns-in-Refused-clause-set : goal.returns-in-Refused-clause-set
returns-in-Refused-clause-set c = λ w e.
    let ws = c.in-Watches.watches in
    let at = c.in-Refused.at in
    let found : Watches ws ≡ Watches w = sym c.in-Watches.is ∙ e in
    let same : ws ≡ w = cc found in
    let asked : SetsAsked (parsed_of c.args.parsed) (watches_of ws) c.args.number c.number.result at (watches_of ws) =
    subst (λ (s : Parsed). SetsAsked (parsed_of s) (watches_of ws) c.args.number c.number.result at (watches_of ws)) (sym c.in-Refused.is) (c.number.ensures, refl, refl) in
    (ws, refl, subst (λ (v : Set). SetsAsked (parsed_of c.args.parsed) (watches_of v) c.args.number c.number.result at (watches_of ws)) same asked)
