use Rattle.std.proofs.Common.{◌<◌, ap, sym, subst, ◌∙◌, arith}
use Rattle.eb_base.specs.Setting.{Setting}
use Rattle.eb_place.specs.Layout.{place}
use Rattle.eb_place.specs.Layout.Slot.{slot}
use Rattle.eb_place.specs.Layout.Region.{id_region}
use Rattle.eb_place.specs.Moments.{word}
use Rattle.eb_cursor.proofs.Bounds.{first_is_low, loaded_at}
use Rattle.eb_cursor.proofs.Firsts.{first_on}
use Rattle.eb_cursor.proofs.bound.load_id.Goals as goal

pub id-requires-clause-document : goal.id-requires-clause-document
id-requires-clause-document g c = let r = c.requires in
    let low = first_is_low r.0 c.args.segment c.args.document r.1 (g.met.P.Port.lawful _ r.0 r.2) (omega (arith, r.4)) r.3 in
    subst (λ (σ : Setting). c.args.document < σ.docs) (sym (c.new-places.ensures ∙ c.config.ensures r.0 r.2)) low.document

pub returns-clause-id : goal.returns-clause-id
returns-clause-id g c = λ docs h. record {
  told = λ m st a.
      let y = c.load.ensures.told m st in
      let setting = c.new-places.ensures ∙ c.config.ensures m st ∙ y.2.setting in
      let at = c.id.ensures.place ∙ ap (λ (σ : Setting). place σ (slot c.args.segment id_region c.args.document)) setting in
      (y.0, y.1, y.2, y.3, loaded_at y.0 c.args.segment c.args.document c.load.result docs (g.met.P.Port.lawful _ y.0 y.1) (first_on m y.0 c.args.segment docs y.2 a) h (y.4 ∙ ap (word y.0) at));
}
