use Rattle.std.proofs.Common.{◌≡◌, ◌+◌, ◌<◌, ap, ◌∙◌, arith}
use Rattle.eb_base.specs.Setting.{Setting}
use Rattle.eb_place.specs.Layout.{place}
use Rattle.eb_place.specs.Layout.Slot.{slot}
use Rattle.eb_place.specs.Layout.Region.{text_region}
use Rattle.eb_place.specs.Room.{text_words}
use Rattle.eb_place.specs.Moments.{word}
use Rattle.eb_terms.specs.Comparing.{term_at}
use Rattle.eb_terms.proofs.Reading.{text_low, text_later, text_is, same_term_later, number_small}
use Rattle.eb_terms.proofs.loads.word_of_text.Goals as goal

pub overflow_cast-at : goal.overflow_cast-at
overflow_cast-at g c =
    let r = c.requires in
    let is = g.met.P.Port.lawful c.args.port.now r.0 r.2 in
    omega (arith, text_low r.0 c.args.segment r.1 c.args.start c.args.at is r.4 r.5, (number_small r.0 c.args.segment r.1 is r.4.inside r.4.number).1)

pub overflow_add-start : goal.overflow_add-start
overflow_add-start g c =
    let r = c.requires in
    let is = g.met.P.Port.lawful c.args.port.now r.0 r.2 in
    omega (arith, text_low r.0 c.args.segment r.1 c.args.start c.args.at is r.4 r.5, (number_small r.0 c.args.segment r.1 is r.4.inside r.4.number).1)

pub text-requires-clause-at : goal.text-requires-clause-at
text-requires-clause-at g c =
    let r = c.requires in
    let is = g.met.P.Port.lawful c.args.port.now r.0 r.2 in
    omega (arith, text_low r.0 c.args.segment r.1 c.args.start c.args.at is r.4 r.5, ap (λ (σ : Setting). σ.terms) (r.3))

pub returns-clause-told : goal.returns-clause-told
returns-clause-told g c = λ k. record {
  told = λ m st h.
      (let low = h.2 in
      let n = c.load.ensures.told m st in
      let is = g.met.P.Port.lawful c.load.new.self n.0 n.1 in
      let s = c.args.segment in
      let at : c.text.result ≡ place n.0.setting (slot s text_region (c.args.start + c.args.at)) = c.text.ensures.place
      ∙ ap (λ (σ : Setting). place σ (slot s text_region (c.args.start + c.args.at))) (h.0 ∙ n.2.setting) in
      let same = ap text_words (same_term_later m n.0 s k n.2 h.1.number) in
      let low' : c.args.at < text_words (term_at n.0 s k) = omega arith in
      (n.0, n.1, n.2, n.3, text_is n.0 s k c.args.start c.args.at c.load.result is (text_later m n.0 s k c.args.start n.2 h.1) low' (n.4 ∙ ap (word n.0) at)));
}
