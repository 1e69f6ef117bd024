use Rattle.std.proofs.Common.{◌≡◌, ap, ◌∙◌, arith}
use Rattle.eb_base.specs.Setting.{Setting}
use Rattle.eb_place.specs.Layout.{place}
use Rattle.eb_place.specs.Layout.Slot.{slot}
use Rattle.eb_place.specs.Layout.Region.{tail_region}
use Rattle.eb_place.specs.Moments.{word}
use Rattle.eb_place.proofs.ReaderWords.{word_tail, tail_in_table}
use Rattle.eb_place.proofs.ReachedLater.{later_term}
use Rattle.eb_chain.proofs.Walks.{tail_low, opens}
use Rattle.eb_chain.proofs.chain.Chain.open.Goals as goal

pub tail-requires-clause-term : goal.tail-requires-clause-term
tail-requires-clause-term g c =
    let r = c.requires in
    let is = g.met.P.Port.lawful c.args.port.now r.0 r.2 in
    let b = (tail_in_table r.0 c.args.segment r.1 c.args.term is r.3).0 in
    let e = ap (λ (σ : Setting). σ.terms) (c.new-places.ensures ∙ c.config.ensures r.0 r.2) in
    omega (arith, b, e)

pub way_from-requires : goal.way_from-requires
way_from-requires g c =
    let r = c.requires in
    let m = r.0 in
    let n = c.load-tail.ensures.told m r.2 in
    let js = g.met.P.Port.lawful c.load-tail.new.self n.0 n.1 in
    let h = later_term m n.0 c.args.segment r.1 c.args.term n.2 r.3 in
    let e : c.tail.result ≡ place n.0.setting (slot c.args.segment tail_region c.args.term) = c.tail.ensures.place
    ∙ ap (λ (σ : Setting). place σ (slot c.args.segment tail_region c.args.term)) (c.new-places.ensures ∙ c.config.ensures m r.2 ∙ n.2.setting) in
    let w = n.4 ∙ ap (word n.0) e ∙ word_tail n.0 c.args.segment r.1 c.args.term js h in
    tail_low n.0 c.args.segment r.1 c.load-tail.result js h.inside w

pub returns-clause-told : goal.returns-clause-told
returns-clause-told g c = λ t. record {
  told = λ m st l.
      (let n = c.load-tail.ensures.told m st in
      let js = g.met.P.Port.lawful c.load-tail.new.self n.0 n.1 in
      let h = later_term m n.0 c.args.segment t c.args.term n.2 l in
      let e : c.tail.result ≡ place n.0.setting (slot c.args.segment tail_region c.args.term) = c.tail.ensures.place
      ∙ ap (λ (σ : Setting). place σ (slot c.args.segment tail_region c.args.term)) (c.new-places.ensures ∙ c.config.ensures m st ∙ n.2.setting) in
      let w = n.4 ∙ ap (word n.0) e ∙ word_tail n.0 c.args.segment t c.args.term js h in
      (n.0, n.1, n.2, n.3, opens n.0 c.args.segment t c.load-tail.result c.way_from.result js h.inside w c.way_from.ensures));
}
