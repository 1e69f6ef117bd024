use Rattle.std.proofs.Common.{◌<◌, ◌+◌, ◌∙◌, ap, sym, subst, arith}
use Rattle.eb_base.specs.Setting.{Setting}
use Rattle.eb_place.specs.Layout.{place}
use Rattle.eb_place.specs.Layout.Slot.{slot}
use Rattle.eb_place.specs.Layout.Region.{first_region}
use Rattle.eb_place.specs.NextStores.{after_store}
use Rattle.eb_writer.proofs.Ends.{documents_few, documents_low, begin_is, begun}
use Rattle.eb_writer.proofs.storing.begin.Goals as goal

pub first-place-requires : goal.first-place-requires
first-place-requires g c =
    let r = c.requires in
    let l = documents_low r.0 c.args.document.now c.args.segment (g.met.P.Port.lawful _ r.0 r.1) r.2.placed in
    subst (λ (σ : Setting). c.args.segment < σ.segments) (sym (c.new.ensures ∙ c.config.ensures r.0 r.1)) l.2

pub overflow_add-count : goal.overflow_add-count
overflow_add-count g c = let r = c.requires in omega (arith, documents_few r.0 (g.met.P.Port.lawful _ r.0 r.1), r.3)

pub store-requires : goal.store-requires
store-requires g c =
    let r = c.requires in
    let at = c.first-place.ensures.place ∙ ap (λ (σ : Setting). place σ (slot c.args.segment first_region 0)) (c.new.ensures ∙ c.config.ensures r.0 r.1) in
    (r.0, r.1, begin_is r.0 c.args.document.now c.args.segment c.first-place.result (c.args.count + 1) (g.met.P.Port.lawful _ r.0 r.1) r.2 at (ap (λ k. k + 1) r.3))

pub returns : goal.returns
returns g c = record {
  written = λ m st h.
      (let b = h.0 in
      let n = h.1 in
      let d = c.args.document.now in
      let is = g.met.P.Port.lawful _ m st in
      let at = c.first-place.ensures.place ∙ ap (λ (σ : Setting). place σ (slot c.args.segment first_region 0)) (c.new.ensures ∙ c.config.ensures m st) in
      let o = c.store.ensures m st (begin_is m d c.args.segment c.first-place.result (c.args.count + 1) is b at (ap (λ k. k + 1) n)) in
      let h = begun m d c.args.segment is b in
      (after_store m d, o.0, o.1, h));
}
