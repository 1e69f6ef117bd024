use Rattle.std.proofs.Common.{rules, ◌≡◌, Some, subst, sym}
use Rattle.eb_c.specs.declared.held.Held.{Held}
use Rattle.eb_c.specs.Sharing.{IsConverter}
use Rattle.eb_c.proofs.Sharings.{leads_converter, is_converter}
use Rattle.eb_c.proofs.sharing.eb_converter_convert.Goals as goal

pub returns-clause-converts : goal.returns-clause-converts
returns-clause-converts c = λ before e.
    let was = leads_converter c.in-Some.ensures.held e in
    let found = c.convert_held-number.ensures.converts before (subst (λ (v : Held). IsConverter v before) (sym c.deref_mut.ensures.value) was) in
    let now : c.of.result.seal.held ≡ Some c.convert_held-number.new.held = search rules in
    (found.0, is_converter now found.1, found.2, found.3, found.4, found.5, found.6)
