use Rattle.std.proofs.Common.{◌≡◌, Some, ap, ◌∙◌, subst, sym, ◌⊎◌}
use Rattle.eb_c.specs.declared.held.Held.{Held}
use Rattle.eb_c.specs.declared.held.Held.TheVariants.{Writer, Reader}
use Rattle.eb_c.proofs.Sharings.{leads}
use Rattle.eb_c.proofs.sharing.eb_reader.Goals as goal

pub returns-in-Ok-clause-made : goal.returns-in-Ok-clause-made
returns-in-Ok-clause-made c w which e =
    let was = leads c.in-Some.ensures.held which in
    c.in-Ok.ensures ∙ ap (λ r. Some (Reader r)) (c.in-Some-made.ensures.made w (subst (λ (v : Held). (v ≡ Writer w) ⊎ (v ≡ Reader w)) (sym c.deref_mut.ensures.value) was))
