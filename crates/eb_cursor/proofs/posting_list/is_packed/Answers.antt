use Rattle.std.proofs.Common.{◌==◌, ap, refl, ◌∙◌}
use Rattle.eb_place.proofs.LaterMoments.{inside_later}
use Rattle.eb_base.specs.Setting.{Setting}
use Rattle.eb_place.specs.Layout.{place}
use Rattle.eb_place.specs.Layout.Slot.{slot}
use Rattle.eb_place.specs.Layout.Region.{converted_region}
use Rattle.eb_place.specs.Moments.{word}
use Rattle.eb_cursor.proofs.Openings.{packed_if}
use Rattle.eb_cursor.proofs.posting_list.is_packed.Goals as goal

pub returns-clause-told : goal.returns-clause-told
returns-clause-told g c = record {
  told = λ m st inside.
      let y = c.load-word.ensures.told m st in
      let setting = c.new-places.ensures ∙ c.config.ensures m st ∙ y.2.setting in
      let at = c.converted.ensures.place ∙ ap (λ (σ : Setting). place σ (slot c.args.segment converted_region 0)) setting in (
        y.0,
        y.1,
        y.2,
        y.3,
        packed_if y.0 c.args.segment c.load-word.result (c.load-word.result == 1) (g.met.P.Port.lawful _ y.0 y.1) (inside_later m y.0 c.args.segment y.2 inside) (y.4 ∙ ap (word y.0) at) refl,
      );
}
