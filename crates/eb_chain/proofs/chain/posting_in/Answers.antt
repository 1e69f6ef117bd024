use Rattle.std.proofs.Common.{◌≡◌, ap, sym, ◌∙◌, subst}
use Rattle.eb_base.specs.Setting.{Setting}
use Rattle.eb_place.specs.Layout.{place, pool_slot, IsInPool}
use Rattle.eb_place.proofs.ReaderWords.{address_in_pool}
use Rattle.eb_chain.proofs.chain.posting_in.Goals as goal

pub posting_at-requires-clause-address : goal.posting_at-requires-clause-address
posting_at-requires-clause-address g c =
    let r = c.requires in
    let is = g.met.P.Port.lawful c.args.port.now r.0 r.3 in
    subst (λ (σ : Setting). IsInPool σ c.args.address) (sym (c.new-places.ensures ∙ c.config.ensures r.0 r.3)) (address_in_pool r.0 c.args.segment r.1 r.2 c.args.address is r.4)

pub posting_from-requires : goal.posting_from-requires
posting_from-requires g c =
    let r = c.requires in
    let e : c.posting_at.result ≡ place r.0.setting (pool_slot c.args.segment c.args.address) = c.posting_at.ensures.place
    ∙ ap (λ (σ : Setting). place σ (pool_slot c.args.segment c.args.address)) (c.new-places.ensures ∙ c.config.ensures r.0 r.3) in
    (r.0, c.args.segment, r.1, r.2, c.args.address, r.3, record { address = r.4; is = e })

pub returns-clause-told : goal.returns-clause-told
returns-clause-told g c = λ t f. record {
  told = λ m st l.
      (let e : c.posting_at.result ≡ place m.setting (pool_slot c.args.segment c.args.address) = c.posting_at.ensures.place
      ∙ ap (λ (σ : Setting). place σ (pool_slot c.args.segment c.args.address)) (c.new-places.ensures ∙ c.config.ensures m st) in
      (c.posting_from.ensures.told c.args.segment t f c.args.address).told m st (record { address = l; is = e }));
}
