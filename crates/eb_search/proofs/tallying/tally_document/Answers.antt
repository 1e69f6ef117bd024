use Rattle.std.proofs.Common.{◌<◌, ap, sym, subst, ◌∙◌}
use Rattle.eb_base.specs.Setting.{Setting, words_of}
use Rattle.eb_place.specs.Layout.{place}
use Rattle.eb_place.specs.Layout.Slot.{slot}
use Rattle.eb_place.specs.Layout.Region.{id_region}
use Rattle.eb_place.specs.Moments.{word}
use Rattle.eb_count.specs.Tallies.{HasAdded}
use Rattle.eb_search.proofs.Segments.{is_low, loaded_id, first_later}
use Rattle.eb_search.proofs.tallying.tally_document.Goals as goal

pub id-requires-clause-segment : goal.id-requires-clause-segment
id-requires-clause-segment g c =
    let r = c.requires in
    let low = is_low r.0 c.args.segment c.args.document r.1 (g.met.P.Port.lawful _ r.0 r.2) r.4 r.3 in
    subst (λ (σ : Setting). c.args.segment < σ.segments) (sym (c.new-places.ensures ∙ c.config.ensures r.0 r.2)) low.segment

pub id-requires-clause-document : goal.id-requires-clause-document
id-requires-clause-document g c =
    let r = c.requires in
    let low = is_low r.0 c.args.segment c.args.document r.1 (g.met.P.Port.lawful _ r.0 r.2) r.4 r.3 in
    subst (λ (σ : Setting). c.args.document < σ.docs) (sym (c.new-places.ensures ∙ c.config.ensures r.0 r.2)) low.document

pub load-id-requires : goal.load-id-requires
load-id-requires g c =
    let r = c.requires in
    (r.0, r.2, subst (λ (σ : Setting). c.id.result < words_of σ) (c.new-places.ensures ∙ c.config.ensures r.0 r.2) c.id.ensures.inside)

pub returns-clause-counted : goal.returns-clause-counted
returns-clause-counted g c = λ docs d there low. record {
  told = λ m st p.
      let y = c.load-id.ensures.told m st in
      let first = first_later m y.0 c.args.segment docs y.2 p in
      let setting = c.new-places.ensures ∙ c.config.ensures m st ∙ y.2.setting in
      let at = c.id.ensures.place ∙ ap (λ (σ : Setting). place σ (slot c.args.segment id_region c.args.document)) setting in
      let id = loaded_id y.0 c.args.segment c.args.document c.load-id.result docs d (g.met.P.Port.lawful _ y.0 y.1) first there low (y.4 ∙ ap (word y.0) at) in
      (y.0, y.1, y.2, y.3, subst (λ z. HasAdded z c.args.tally.now c.add-2.new.self) id c.add-2.ensures);
}
