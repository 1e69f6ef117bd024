use Rattle.std.proofs.Common.{◌+◌, ◌<◌, ap, sym, ◌∙◌, subst, arith}
use Rattle.eb_base.specs.Setting.{Setting}
use Rattle.eb_place.specs.Layout.{place}
use Rattle.eb_place.specs.Layout.Slot.{slot}
use Rattle.eb_place.specs.Layout.Region.{cell_region, text_place_region}
use Rattle.eb_place.specs.Room.{text_words}
use Rattle.eb_place.specs.NextStores.{with_placed}
use Rattle.eb_terms.proofs.NextTerms.{ready, enter_inside, place_next, place_stored, cell_next, cell_stored, enters, enters_tells}
use Rattle.eb_terms.proofs.entering.enter.Goals as goal

pub free_cell_alone-cell-requires-clause-inside : goal.free_cell_alone-cell-requires-clause-inside
free_cell_alone-cell-requires-clause-inside g c =
    let r = c.requires in
    (r.0, r.1, enter_inside r.0 c.args.document.now c.args.segment c.args.term.now (g.met.P.Port.lawful c.args.pen.now r.0 r.1) r.3)

pub store_text-requires : goal.store_text-requires
store_text-requires g c =
    let r = c.requires in
    let n = c.free_cell_alone-cell.ensures r.0 r.1 in
    let f = g.met.P.Pen.pen_keeps c.args.pen.now c.free_cell_alone-cell.new.port r.0 n.0 n.3 in
    let k = ready r.0 n.0 c.args.document.now c.args.segment c.args.term.now c.args.used.now (g.met.P.Port.lawful c.free_cell_alone-cell.new.port n.0 n.1) n.2 f r.3 r.2 in
    (n.0, n.1, k.text)

pub text_place-requires-clause-segment : goal.text_place-requires-clause-segment
text_place-requires-clause-segment g c =
    let r = c.requires in
    let n = c.free_cell_alone-cell.ensures r.0 r.1 in
    let f = g.met.P.Pen.pen_keeps c.args.pen.now c.free_cell_alone-cell.new.port r.0 n.0 n.3 in
    let k = ready r.0 n.0 c.args.document.now c.args.segment c.args.term.now c.args.used.now (g.met.P.Port.lawful c.free_cell_alone-cell.new.port n.0 n.1) n.2 f r.3 r.2 in
    subst (λ (σ : Setting). c.args.segment < σ.segments) (sym (c.new-places.ensures ∙ c.config.ensures n.0 n.1)) k.inside

pub text_place-requires-clause-term : goal.text_place-requires-clause-term
text_place-requires-clause-term g c =
    let r = c.requires in
    let n = c.free_cell_alone-cell.ensures r.0 r.1 in
    let f = g.met.P.Pen.pen_keeps c.args.pen.now c.free_cell_alone-cell.new.port r.0 n.0 n.3 in
    let k = ready r.0 n.0 c.args.document.now c.args.segment c.args.term.now c.args.used.now (g.met.P.Port.lawful c.free_cell_alone-cell.new.port n.0 n.1) n.2 f r.3 r.2 in
    omega (arith, k.few, ap (λ (σ : Setting). σ.terms) (c.new-places.ensures ∙ c.config.ensures n.0 n.1))

pub store-requires : goal.store-requires
store-requires g c =
    let r = c.requires in
    let d = c.args.document.now in
    let s = c.args.segment in
    let t = c.args.term.now in
    let u = c.args.used.now in
    let n = c.free_cell_alone-cell.ensures r.0 r.1 in
    let f = g.met.P.Pen.pen_keeps c.args.pen.now c.free_cell_alone-cell.new.port r.0 n.0 n.3 in
    let k = ready r.0 n.0 d s t u (g.met.P.Port.lawful c.free_cell_alone-cell.new.port n.0 n.1) n.2 f r.3 r.2 in
    let o = c.store_text.ensures n.0 n.1 k.text in
    let at = c.text_place.ensures.place ∙ ap (λ (σ : Setting). place σ (slot s text_place_region u.terms)) (c.new-places.ensures ∙ c.config.ensures n.0 n.1) in
    (with_placed n.0 d (text_words t), o.0, place_next n.0 d s t u c.text_place.result c.from.result k at c.from.ensures)

pub cell-requires-clause-segment : goal.cell-requires-clause-segment
cell-requires-clause-segment g c =
    let r = c.requires in
    let n = c.free_cell_alone-cell.ensures r.0 r.1 in
    let f = g.met.P.Pen.pen_keeps c.args.pen.now c.free_cell_alone-cell.new.port r.0 n.0 n.3 in
    let k = ready r.0 n.0 c.args.document.now c.args.segment c.args.term.now c.args.used.now (g.met.P.Port.lawful c.free_cell_alone-cell.new.port n.0 n.1) n.2 f r.3 r.2 in
    subst (λ (σ : Setting). c.args.segment < σ.segments) (sym (c.new-places.ensures ∙ c.config.ensures n.0 n.1)) k.inside

pub cell-requires-clause-cell : goal.cell-requires-clause-cell
cell-requires-clause-cell g c =
    let r = c.requires in
    let n = c.free_cell_alone-cell.ensures r.0 r.1 in
    omega (arith, n.5, ap (λ (σ : Setting). σ.terms) (c.new-places.ensures ∙ c.config.ensures n.0 n.1))

pub store-requires-2 : goal.store-requires-2
store-requires-2 g c =
    let r = c.requires in
    let d = c.args.document.now in
    let s = c.args.segment in
    let t = c.args.term.now in
    let u = c.args.used.now in
    let n = c.free_cell_alone-cell.ensures r.0 r.1 in
    let f = g.met.P.Pen.pen_keeps c.args.pen.now c.free_cell_alone-cell.new.port r.0 n.0 n.3 in
    let k = ready r.0 n.0 d s t u (g.met.P.Port.lawful c.free_cell_alone-cell.new.port n.0 n.1) n.2 f r.3 r.2 in
    let o = c.store_text.ensures n.0 n.1 k.text in
    let e = c.new-places.ensures ∙ c.config.ensures n.0 n.1 in
    let at = c.text_place.ensures.place ∙ ap (λ (σ : Setting). place σ (slot s text_place_region u.terms)) e in
    let p = c.store.ensures (with_placed n.0 d (text_words t)) o.0 (place_next n.0 d s t u c.text_place.result c.from.result k at c.from.ensures) in
    let cell = c.cell.ensures.place ∙ ap (λ (σ : Setting). place σ (slot s cell_region c.free_cell_alone-cell.result)) e in (
      with_placed n.0 d (text_words t + 1),
      subst (λ z. g.P.Port.stands c.store.new.self z) (place_stored n.0 d s t u k) p.0,
      cell_next n.0 d s t u c.free_cell_alone-cell.result c.cell.result (c.from-2.result + 1) k n.4 cell (ap (λ z. z + 1) c.from-2.ensures),
    )

pub overflow_add-used : goal.overflow_add-used
overflow_add-used g c =
    let r = c.requires in
    let n = c.free_cell_alone-cell.ensures r.0 r.1 in
    let f = g.met.P.Pen.pen_keeps c.args.pen.now c.free_cell_alone-cell.new.port r.0 n.0 n.3 in
    let k = ready r.0 n.0 c.args.document.now c.args.segment c.args.term.now c.args.used.now (g.met.P.Port.lawful c.free_cell_alone-cell.new.port n.0 n.1) n.2 f r.3 r.2 in
    omega (arith, k.few, k.small)

pub overflow_cast-used : goal.overflow_cast-used
overflow_cast-used g c =
    let r = c.requires in
    let n = c.free_cell_alone-cell.ensures r.0 r.1 in
    let f = g.met.P.Pen.pen_keeps c.args.pen.now c.free_cell_alone-cell.new.port r.0 n.0 n.3 in
    let k = ready r.0 n.0 c.args.document.now c.args.segment c.args.term.now c.args.used.now (g.met.P.Port.lawful c.free_cell_alone-cell.new.port n.0 n.1) n.2 f r.3 r.2 in
    omega (arith, k.texts, k.small, c.count_words.ensures.count)

pub overflow_add-used-2 : goal.overflow_add-used-2
overflow_add-used-2 g c =
    let r = c.requires in
    let n = c.free_cell_alone-cell.ensures r.0 r.1 in
    let f = g.met.P.Pen.pen_keeps c.args.pen.now c.free_cell_alone-cell.new.port r.0 n.0 n.3 in
    let k = ready r.0 n.0 c.args.document.now c.args.segment c.args.term.now c.args.used.now (g.met.P.Port.lawful c.free_cell_alone-cell.new.port n.0 n.1) n.2 f r.3 r.2 in
    omega (arith, k.texts, k.small, c.count_words.ensures.count)

pub returns : goal.returns
returns g c = record {
  written = λ m st h.
      (let d = c.args.document.now in
      let s = c.args.segment in
      let t = c.args.term.now in
      let u = c.args.used.now in
      let n = c.free_cell_alone-cell.ensures m st in
      let is = g.met.P.Port.lawful c.free_cell_alone-cell.new.port n.0 n.1 in
      let f = g.met.P.Pen.pen_keeps c.args.pen.now c.free_cell_alone-cell.new.port m n.0 n.3 in
      let k = ready m n.0 d s t u is n.2 f h.1 h.0 in
      let o = c.store_text.ensures n.0 n.1 k.text in
      let e = c.new-places.ensures ∙ c.config.ensures n.0 n.1 in
      let at = c.text_place.ensures.place ∙ ap (λ (σ : Setting). place σ (slot s text_place_region u.terms)) e in
      let p = c.store.ensures (with_placed n.0 d (text_words t)) o.0 (place_next n.0 d s t u c.text_place.result c.from.result k at c.from.ensures) in
      let cell = c.cell.ensures.place ∙ ap (λ (σ : Setting). place σ (slot s cell_region c.free_cell_alone-cell.result)) e in
      let q = c.store-2.ensures (with_placed n.0 d (text_words t + 1)) (subst (λ z. g.P.Port.stands c.store.new.self z) (place_stored n.0 d s t u k) p.0)
      (cell_next n.0 d s t u c.free_cell_alone-cell.result c.cell.result (c.from-2.result + 1) k n.4 cell (ap (λ z. z + 1) c.from-2.ensures)) in
      let same = g.met.P.Port.keeps_same c.args.pen.now c.free_cell_alone-cell.new.port m n.0 n.3 in
      let same1 = g.met.P.Port.same_on c.args.pen.now c.free_cell_alone-cell.new.port c.store_text.new.pen same o.1 in
      let same2 = g.met.P.Port.same_on c.args.pen.now c.store_text.new.pen c.store.new.self same1 p.1 in (
        with_placed n.0 d (text_words t + 2),
        subst (λ z. g.P.Port.stands c.store-2.new.self z) (cell_stored n.0 d s t u k) q.0,
        g.met.P.Port.same_on c.args.pen.now c.store.new.self c.store-2.new.self same2 q.1,
        (
          enters m n.0 d s t u.terms is n.2 f c.count_words.ensures.bytes k.next h.0.terms,
          enters_tells m n.0 d s t u _ is n.2 f c.count_words.ensures.bytes k.next h.0 (ap (λ z. record u { terms = u.terms + 1; text = u.text + z }) c.count_words.ensures.count),
        ),
      ));
}
