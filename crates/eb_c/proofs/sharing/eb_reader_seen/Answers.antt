use Rattle.std.proofs.Common.{◌≡◌, subst, sym}
use Rattle.eb_c.specs.declared.held.Held.{Held}
use Rattle.eb_c.specs.declared.held.Held.TheVariants.{Reader}
use Rattle.eb_c.proofs.Sharings.{leads_to}
use Rattle.eb_c.proofs.sharing.eb_reader_seen.Goals as goal

pub returns-clause-told : goal.returns-clause-told
returns-clause-told c = λ r e. c.seen_by-number.ensures.told r (subst (λ (v : Held). v ≡ Reader r) (sym c.deref_mut.ensures.value) (leads_to c.in-Some.ensures.held e))
