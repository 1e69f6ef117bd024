use Rattle.std.proofs.Common.{◌≡◌, subst, sym}
use Rattle.eb_c.specs.declared.held.Held.{Held}
use Rattle.eb_c.specs.declared.held.Held.TheVariants.{Follower}
use Rattle.eb_c.proofs.Sharings.{leads_to}
use Rattle.eb_c.proofs.streaming.eb_follower_seen.Goals as goal

pub returns-clause-told : goal.returns-clause-told
returns-clause-told c = λ f e. c.seen_by-number.ensures.told f (subst (λ (v : Held). v ≡ Follower f) (sym c.deref_mut.ensures.value) (leads_to c.in-Some.ensures.held e))
