use Rattle.std.proofs.Common.{◌≡◌, ℕ, sym, subst, length}
use Rattle.eb_place.proofs.LaterMoments.{later_on}
use Rattle.eb_place.specs.Walk.{IsAddress, IsLink}
use Rattle.eb_chain.proofs.Walks.{at_of, link_of, gives_rest}
use Rattle.eb_chain.proofs.chain.Chain.next.Goals.{in-At, in-Link}
use Rattle.eb_chain.proofs.chain.Chain.next.Goals as goal

pub posting_in-posting-requires : goal.posting_in-posting-requires
posting_in-posting-requires g c = let r = c.requires in elim c.match-self.branch [
  | in-At w ↦
      let q = at_of r.0 r.1 r.2 (length r.4) c.args.self.now.way w.in-At.address r.6.way w.in-At.is in
      let at : IsAddress r.0 r.1 r.2 q.0 c.match-self.address = subst (IsAddress r.0 r.1 r.2 q.0) (sym w.address-is) q.2 in
      (r.0, r.2, q.0, subst (λ p. g.P.Port.stands p r.0) (sym w.port-is) r.5, subst (λ (z : ℕ). IsAddress r.0 z r.2 q.0 c.match-self.address) (sym r.6.of_segment) at)
  | in-Link w ↦
      let q = link_of r.0 r.1 r.2 (length r.4) c.args.self.now.way w.in-Link.link r.6.way w.in-Link.is in
      let k = (w.follow-address.ensures.told r.2 q.0).told r.0 r.5 (subst (λ (z : ℕ). IsLink r.0 z r.2 q.0 w.in-Link.link) (sym r.6.of_segment) q.2) in
      (k.0, r.2, q.0, subst (λ p. g.P.Port.stands p k.0) (sym w.port-is) k.1, subst (IsAddress k.0 c.args.self.now.segment r.2 q.0) (sym w.address-is) k.4)
]

pub returns-clause-told : goal.returns-clause-told
returns-clause-told g c = λ s t opened rest. record {
  told = λ m st h.
      (elim c.match-self.branch [
        | in-At w ↦
            let v = c.args.self.now.segment in
            let is_s : v ≡ s = h.of_segment in
            let q = at_of m s t (length rest) c.args.self.now.way w.in-At.address h.way w.in-At.is in
            let st' = subst (λ p. g.P.Port.stands p m) (sym w.port-is) st in
            let at : IsAddress m v t q.0 c.match-self.address = subst (λ (z : ℕ). IsAddress m z t q.0 c.match-self.address) (sym is_s) (subst (IsAddress m s t q.0) (sym w.address-is) q.2) in
            let n = (c.posting_in-posting.ensures.told t q.0).told m st' at in
            let is = g.met.P.Port.lawful c.args.port.now m st in
            let js = g.met.P.Port.lawful c.posting_in-posting.new.port n.0 n.1 in (
              n.0,
              n.1,
              n.2,
              subst (λ p. g.P.Port.keeps p m c.posting_in-posting.new.port n.0) w.port-is n.3,
              gives_rest m n.0 s v t c.args.self.now.way c.way_before-self.result opened rest q.0 c.match-self.address c.posting_in-posting.result is js n.2 h q.1 n.4 c.way_before-self.ensures,
            )
        | in-Link w ↦
            let v = c.args.self.now.segment in
            let is_s : v ≡ s = h.of_segment in
            let q = link_of m s t (length rest) c.args.self.now.way w.in-Link.link h.way w.in-Link.is in
            let k = (w.follow-address.ensures.told t q.0).told m st (subst (λ (z : ℕ). IsLink m z t q.0 w.in-Link.link) (sym is_s) q.2) in
            let st' = subst (λ p. g.P.Port.stands p k.0) (sym w.port-is) k.1 in
            let at : IsAddress k.0 v t q.0 c.match-self.address = subst (IsAddress k.0 v t q.0) (sym w.address-is) k.4 in
            let n = (c.posting_in-posting.ensures.told t q.0).told k.0 st' at in
            let is = g.met.P.Port.lawful c.args.port.now m st in
            let js = g.met.P.Port.lawful c.posting_in-posting.new.port n.0 n.1 in
            let later = later_on m k.0 n.0 k.2 n.2 in
            let kept = subst (λ p. g.P.Port.keeps p k.0 c.posting_in-posting.new.port n.0) w.port-is n.3 in (
              n.0,
              n.1,
              later,
              g.met.P.Port.keeps_on _ _ _ m k.0 n.0 k.3 kept,
              gives_rest m n.0 s v t c.args.self.now.way c.way_before-self.result opened rest q.0 c.match-self.address c.posting_in-posting.result is js later h q.1 n.4 c.way_before-self.ensures,
            )
      ]);
}
