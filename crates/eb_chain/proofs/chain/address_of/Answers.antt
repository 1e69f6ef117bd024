use Rattle.std.proofs.Common.{sym, subst, Some}
use Rattle.eb_chain.specs.Leaps.{LeadsTo}
use Rattle.eb_chain.proofs.Walks.{link_of}
use Rattle.eb_chain.proofs.chain.address_of.Goals as goal

pub returns-in-Link-clause-told : goal.returns-in-Link-clause-told
returns-in-Link-clause-told g c = λ t f. record {
  told = λ m st h.
      (let q = link_of m c.args.segment t f c.args.way c.in-Link.link h c.in-Link.is in
      let k = (c.follow.ensures.told t q.0).told m st q.2 in
      (k.0, k.1, k.2, k.3, subst (λ z. LeadsTo k.0 c.args.segment t z (Some c.follow.result)) (sym q.1) k.4));
}
