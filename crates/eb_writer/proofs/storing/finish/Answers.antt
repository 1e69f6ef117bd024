use Rattle.std.proofs.Common.{◌<◌, ◌+◌, ◌∙◌, ap, sym, subst, arith}
use Rattle.eb_base.specs.Setting.{Setting}
use Rattle.eb_place.specs.Layout.{place}
use Rattle.eb_place.specs.Layout.Slot.{slot}
use Rattle.eb_place.specs.Layout.Region.{id_region}
use Rattle.eb_place.specs.NextStores.{after_store}
use Rattle.eb_writer.proofs.Ends.{documents_few, documents_low, id_is, last}
use Rattle.eb_writer.proofs.storing.finish.Goals as goal

pub id-place-requires-clause-segment : goal.id-place-requires-clause-segment
id-place-requires-clause-segment g c =
    let r = c.requires in
    let l = documents_low r.0 c.args.document.now c.args.segment (g.met.P.Port.lawful _ r.0 r.1) r.2.placed in
    subst (λ (σ : Setting). c.args.segment < σ.segments) (sym (c.new.ensures ∙ c.config.ensures r.0 r.1)) l.2

pub id-place-requires-clause-document : goal.id-place-requires-clause-document
id-place-requires-clause-document g c =
    let r = c.requires in
    let l = documents_low r.0 c.args.document.now c.args.segment (g.met.P.Port.lawful _ r.0 r.1) r.2.placed in
    omega (arith, l.0, r.3, ap (λ (σ : Setting). σ.docs) (c.new.ensures ∙ c.config.ensures r.0 r.1))

pub store-requires : goal.store-requires
store-requires g c =
    let r = c.requires in
    let at = c.id-place.ensures.place ∙ ap (λ (σ : Setting). place σ (slot c.args.segment id_region c.args.number)) (c.new.ensures ∙ c.config.ensures r.0 r.1)
    ∙ ap (λ k. place r.0.setting (slot c.args.segment id_region k)) r.3 in
    (r.0, r.1, id_is r.0 c.args.document.now c.args.segment c.id-place.result c.id.result r.2 at c.id.ensures)

pub overflow_add-count : goal.overflow_add-count
overflow_add-count g c = let r = c.requires in omega (arith, documents_few r.0 (g.met.P.Port.lawful _ r.0 r.1), r.4)

pub store-requires-2 : goal.store-requires-2
store-requires-2 g c =
    let r = c.requires in
    let d = c.args.document.now in
    let at = c.id-place.ensures.place ∙ ap (λ (σ : Setting). place σ (slot c.args.segment id_region c.args.number)) (c.new.ensures ∙ c.config.ensures r.0 r.1)
    ∙ ap (λ k. place r.0.setting (slot c.args.segment id_region k)) r.3 in
    let o = c.store.ensures r.0 r.1 (id_is r.0 d c.args.segment c.id-place.result c.id.result r.2 at c.id.ensures) in
    (after_store r.0 d, o.0, (last r.0 d c.args.segment (c.args.count + 1) r.2 (ap (λ k. k + 1) r.4)).next)

pub returns : goal.returns
returns g c = record {
  written = λ m st q.
      (let d = c.args.document.now in
      let at = c.id-place.ensures.place ∙ ap (λ (σ : Setting). place σ (slot c.args.segment id_region c.args.number)) (c.new.ensures ∙ c.config.ensures m st)
      ∙ ap (λ z. place m.setting (slot c.args.segment id_region z)) q.1 in
      let o = c.store.ensures m st (id_is m d c.args.segment c.id-place.result c.id.result q.0 at c.id.ensures) in
      let l = last m d c.args.segment (c.args.count + 1) q.0 (ap (λ z. z + 1) q.2) in
      let p = c.store-2.ensures (after_store m d) o.0 l.next in
      (after_store (after_store m d) d, p.0, g.met.P.Port.same_on _ _ _ o.1 p.1, l.accepted));
}
