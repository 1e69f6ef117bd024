use Rattle.std.proofs.Common.{◌≡◌, ◌+◌, ◌/◌, ◌^◌, refl, ap, ◌∙◌, arith}
use Rattle.eb_base.specs.Setting.{Setting}
use Rattle.eb_place.specs.Layout.{place}
use Rattle.eb_place.specs.Layout.Slot.{slot}
use Rattle.eb_place.specs.Layout.Region.{directory_region, packed_region}
use Rattle.eb_place.specs.Moments.{word}
use Rattle.eb_place.proofs.ReaderWords.{tail_in_table}
use Rattle.eb_place.proofs.ReachedLater.{later_term}
use Rattle.eb_place.proofs.ConverterWords.{later_converted}
use Rattle.eb_place.proofs.WordsAtMoment.{setting_terms}
use Rattle.eb_block.proofs.Standing.{opens, open_room}
use Rattle.eb_block.proofs.packed_list.PackedList.open.Goals as goal

pub directory-requires-clause-term : goal.directory-requires-clause-term
directory-requires-clause-term g c =
    let r = c.requires in
    let is = g.met.P.Port.lawful c.args.port.now r.0 r.2 in
    let b = (tail_in_table r.0 c.args.segment r.1 c.args.term is r.4).0 in
    let e = ap (λ (σ : Setting). σ.terms) (c.new-places.ensures ∙ c.config.ensures r.0 r.2) in
    omega (arith, b, e)

pub packed-base-requires-clause-at : goal.packed-base-requires-clause-at
packed-base-requires-clause-at g c =
    let r = c.requires in
    let is = g.met.P.Port.lawful c.args.port.now r.0 r.2 in
    let e = ap (λ (σ : Setting). σ.terms) (c.new-places.ensures ∙ c.config.ensures r.0 r.2) in
    omega (arith, setting_terms r.0.setting is.setting, e)

pub overflow_add-start : goal.overflow_add-start
overflow_add-start g c =
    let r = c.requires in
    let n = c.load-word.ensures.told r.0 r.2 in
    let js = g.met.P.Port.lawful c.load-word.new.self n.0 n.1 in
    let h = later_term r.0 n.0 c.args.segment r.1 c.args.term n.2 r.4 in
    let e : c.directory.result ≡ place n.0.setting (slot c.args.segment directory_region c.args.term) = c.directory.ensures.place
    ∙ ap (λ (σ : Setting). place σ (slot c.args.segment directory_region c.args.term)) (c.new-places.ensures ∙ c.config.ensures r.0 r.2 ∙ n.2.setting) in
    let base : c.packed-base.result ≡ place n.0.setting (slot c.args.segment packed_region 0) = c.packed-base.ensures.place
    ∙ ap (λ (σ : Setting). place σ (slot c.args.segment packed_region 0)) (c.new-places.ensures ∙ c.config.ensures r.0 r.2 ∙ n.2.setting) in
    omega (arith, open_room n.0 c.args.segment r.1 c.args.term c.load-word.result js (later_converted r.0 n.0 c.args.segment n.2 r.3) h (n.4 ∙ ap (word n.0) e), base)

pub returns-clause-told : goal.returns-clause-told
returns-clause-told g c = λ t. record {
  told = λ m st h.
      (let k = h.0 in
      let l = h.1 in
      let n = c.load-word.ensures.told m st in
      let js = g.met.P.Port.lawful c.load-word.new.self n.0 n.1 in
      let h = later_term m n.0 c.args.segment t c.args.term n.2 l in
      let e : c.directory.result ≡ place n.0.setting (slot c.args.segment directory_region c.args.term) = c.directory.ensures.place
      ∙ ap (λ (σ : Setting). place σ (slot c.args.segment directory_region c.args.term)) (c.new-places.ensures ∙ c.config.ensures m st ∙ n.2.setting) in
      let base : c.packed-base.result ≡ place n.0.setting (slot c.args.segment packed_region 0) = c.packed-base.ensures.place
      ∙ ap (λ (σ : Setting). place σ (slot c.args.segment packed_region 0)) (c.new-places.ensures ∙ c.config.ensures m st ∙ n.2.setting) in
      let start : c.packed-base.result + c.load-word.result / 2 ^ 32 ≡ place n.0.setting (slot c.args.segment packed_region 0) + c.load-word.result / 2 ^ 32 = omega (arith, base) in (
        n.0,
        n.1,
        n.2,
        n.3,
        opens n.0 c.args.segment t c.args.term c.load-word.result _ js (later_converted m n.0 c.args.segment n.2 k) h (n.4 ∙ ap (word n.0) e) (record {
          at = start;
          held_bits = c.none.ensures.held;
          low = c.none.ensures.low;
          count = c.none.ensures.count;
          width = refl;
          inside = refl;
          held = refl;
          next = start;
          header = refl;
          left = refl;
          near = omega arith;
        }),
      ));
}
