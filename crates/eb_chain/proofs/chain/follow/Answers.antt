use Rattle.std.proofs.Common.{◌≡◌, ap, sym, ◌∙◌, subst, arith}
use Rattle.eb_base.specs.Setting.{Setting}
use Rattle.eb_place.specs.Layout.{place, pool_slot, IsInPool}
use Rattle.eb_place.specs.Moments.{word}
use Rattle.eb_place.proofs.ReaderWords.{word_link, link_in_pool, address_small}
use Rattle.eb_place.proofs.ReachedWordsStay.{link_later}
use Rattle.eb_chain.proofs.chain.follow.Goals as goal

pub posting_at-requires-clause-address : goal.posting_at-requires-clause-address
posting_at-requires-clause-address g c =
    let r = c.requires in
    let is = g.met.P.Port.lawful c.args.port.now r.0 r.3 in
    subst (λ (σ : Setting). IsInPool σ c.args.link) (sym (c.new-places.ensures ∙ c.config.ensures r.0 r.3)) (link_in_pool r.0 c.args.segment r.1 r.2 c.args.link is r.4)

pub overflow_cast-result : goal.overflow_cast-result
overflow_cast-result g c =
    let r = c.requires in
    let m = r.0 in
    let n = c.load.ensures.told m r.3 in
    let is = g.met.P.Port.lawful c.args.port.now m r.3 in
    let js = g.met.P.Port.lawful c.load.new.self n.0 n.1 in
    let h = link_later m n.0 c.args.segment r.1 r.2 c.args.link is n.2 r.4 in
    let e : c.posting_at.result ≡ place n.0.setting (pool_slot c.args.segment c.args.link) = c.posting_at.ensures.place
    ∙ ap (λ (σ : Setting). place σ (pool_slot c.args.segment c.args.link)) (c.new-places.ensures ∙ c.config.ensures m r.3 ∙ n.2.setting) in
    let w = n.4 ∙ ap (word n.0) e ∙ word_link n.0 c.args.segment r.1 r.2 c.args.link js h in
    let q = h.reached in
    let small = address_small n.0 c.args.segment r.1 r.2 js h.inside (omega arith) in
    omega (arith, w, small)

pub returns-clause-told : goal.returns-clause-told
returns-clause-told g c = λ t f. record {
  told = λ m st l.
      (let n = c.load.ensures.told m st in
      let is = g.met.P.Port.lawful c.args.port.now m st in
      let js = g.met.P.Port.lawful c.load.new.self n.0 n.1 in
      let h = link_later m n.0 c.args.segment t f c.args.link is n.2 l in
      let e : c.posting_at.result ≡ place n.0.setting (pool_slot c.args.segment c.args.link) = c.posting_at.ensures.place
      ∙ ap (λ (σ : Setting). place σ (pool_slot c.args.segment c.args.link)) (c.new-places.ensures ∙ c.config.ensures m st ∙ n.2.setting) in
      let w = n.4 ∙ ap (word n.0) e ∙ word_link n.0 c.args.segment t f c.args.link js h in
      let q = h.reached in
      (n.0, n.1, n.2, n.3, record { inside = h.inside; reached = omega arith; is = w }));
}
