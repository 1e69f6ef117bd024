use Rattle.std.proofs.Common.{◌≡◌, ◌-◌, ap, ◌∙◌, arith}
use Rattle.eb_base.specs.Setting.{Setting}
use Rattle.eb_place.specs.Layout.{place}
use Rattle.eb_place.specs.Layout.Slot.{slot}
use Rattle.eb_place.specs.Layout.Region.{cell_region}
use Rattle.eb_place.specs.Moments.{word}
use Rattle.eb_place.proofs.LaterMoments.{inside_later}
use Rattle.eb_terms.proofs.Reading.{cell_later, holds_number, number_small}
use Rattle.eb_terms.proofs.loads.number_in.Goals as goal

pub overflow_cast-result : goal.overflow_cast-result
overflow_cast-result g c =
    let r = c.requires in
    let n = c.load-word.ensures.told r.0 r.1 in
    let is = g.met.P.Port.lawful c.load-word.new.self n.0 n.1 in
    let s = c.args.segment in
    let at : c.cell.result ≡ place n.0.setting (slot s cell_region c.args.cell) = c.cell.ensures.place
    ∙ ap (λ (σ : Setting). place σ (slot s cell_region c.args.cell)) (r.2 ∙ n.2.setting) in
    let inside = inside_later r.0 n.0 s n.2 r.3 in
    let h = holds_number n.0 s c.args.cell c.load-word.result is inside (cell_later r.0 n.0 c.args.cell n.2 r.4) (n.4 ∙ ap (word n.0) at) (omega arith) in
    let few = number_small n.0 s (c.load-word.result - 1) is inside h.0 in
    omega (arith, few.0, few.1)

pub returns-clause-told : goal.returns-clause-told
returns-clause-told g c = record {
  told = λ m st h.
      (let inside = h.1 in
      let low = h.2 in
      let n = c.load-word.ensures.told m st in
      let is = g.met.P.Port.lawful c.load-word.new.self n.0 n.1 in
      let s = c.args.segment in
      let at : c.cell.result ≡ place n.0.setting (slot s cell_region c.args.cell) = c.cell.ensures.place
      ∙ ap (λ (σ : Setting). place σ (slot s cell_region c.args.cell)) (h.0 ∙ n.2.setting) in
      let h = holds_number n.0 s c.args.cell c.load-word.result is (inside_later m n.0 s n.2 inside) (cell_later m n.0 c.args.cell n.2 low) (n.4 ∙ ap (word n.0) at) (omega arith) in
      (n.0, n.1, n.2, n.3, h));
}
