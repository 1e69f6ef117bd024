use Rattle.std.proofs.Common.{◌≡◌, ap, ◌∙◌, arith}
use Rattle.eb_base.specs.Setting.{Setting}
use Rattle.eb_place.specs.Layout.{place}
use Rattle.eb_place.specs.Layout.Slot.{slot}
use Rattle.eb_place.specs.Layout.Region.{text_place_region}
use Rattle.eb_place.specs.Moments.{word}
use Rattle.eb_place.proofs.LaterMoments.{inside_later}
use Rattle.eb_terms.proofs.Reading.{number_later, number_small, start_is, start_small}
use Rattle.eb_terms.proofs.loads.start_of.Goals as goal

pub text_place-requires-clause-term : goal.text_place-requires-clause-term
text_place-requires-clause-term g c =
    let r = c.requires in
    let is = g.met.P.Port.lawful c.args.port.now r.0 r.1 in
    let few = number_small r.0 c.args.segment c.args.number is r.3 r.4 in
    omega (arith, few.0, ap (λ (σ : Setting). σ.terms) (r.2))

pub overflow_cast-result : goal.overflow_cast-result
overflow_cast-result g c =
    let r = c.requires in
    let n = c.load.ensures.told r.0 r.1 in
    let is = g.met.P.Port.lawful c.load.new.self n.0 n.1 in
    let s = c.args.segment in
    let at : c.text_place.result ≡ place n.0.setting (slot s text_place_region c.args.number) = c.text_place.ensures.place
    ∙ ap (λ (σ : Setting). place σ (slot s text_place_region c.args.number)) (r.2 ∙ n.2.setting) in
    let h = start_is n.0 s c.args.number c.load.result is (inside_later r.0 n.0 s n.2 r.3) (number_later r.0 n.0 s c.args.number n.2 r.4) (n.4 ∙ ap (word n.0) at) in
    omega (arith, start_small n.0 s c.args.number c.load.result is h)

pub returns-clause-told : goal.returns-clause-told
returns-clause-told g c = record {
  told = λ m st h.
      (let inside = h.1 in
      let low = h.2 in
      let n = c.load.ensures.told m st in
      let is = g.met.P.Port.lawful c.load.new.self n.0 n.1 in
      let s = c.args.segment in
      let at : c.text_place.result ≡ place n.0.setting (slot s text_place_region c.args.number) = c.text_place.ensures.place
      ∙ ap (λ (σ : Setting). place σ (slot s text_place_region c.args.number)) (h.0 ∙ n.2.setting) in
      (n.0, n.1, n.2, n.3, start_is n.0 s c.args.number c.load.result is (inside_later m n.0 s n.2 inside) (number_later m n.0 s c.args.number n.2 low) (n.4 ∙ ap (word n.0) at)));
}
