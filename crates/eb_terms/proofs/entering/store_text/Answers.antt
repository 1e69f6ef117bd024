use Rattle.std.proofs.Common.{◌≡◌, ◌+◌, ◌<◌, length, get_or, ap, sym, ◌∙◌, subst, arith}
use Rattle.eb_base.specs.Setting.{Setting}
use Rattle.eb_place.specs.Layout.{place}
use Rattle.eb_place.specs.Layout.Slot.{slot}
use Rattle.eb_place.specs.Layout.Region.{text_region}
use Rattle.eb_place.specs.Placing.{Store, in_row, text_of}
use Rattle.eb_place.specs.Room.{text_words}
use Rattle.eb_place.specs.NextStores.{with_placed}
use Rattle.eb_place.proofs.StoresWithinTable.{length-text_of}
use Rattle.eb_place.proofs.ListOfStores.{after_stores, after_is, after_none, after_one, next_of, next_as, placed_is}
use Rattle.eb_terms.proofs.NextTerms.{text_room, text_goes_on, length-in_row, row_get}
use Rattle.eb_terms.proofs.entering.store_text.Goals as goal

pub loop-at-init : goal.loop-at-init
loop-at-init g c m st n = (
  subst (λ z. g.P.Port.stands c.args.pen.now z) (sym (after_none m c.args.document.now)) st,
  g.met.P.Port.keeps_same c.args.pen.now c.args.pen.now m m (g.met.P.Port.keeps_itself c.args.pen.now m st),
)

pub overflow_cast-at : goal.overflow_cast-at
overflow_cast-at g c =
    let r = c.requires in
    let room = text_room r.0 c.args.document.now c.args.segment c.args.start c.args.term.now (g.met.P.Port.lawful c.args.pen.now r.0 r.1) r.2 in
    omega (arith, room.1, room.2, c.loop-at-test.true, c.count_words-at-end.ensures.count)

pub overflow_add-start : goal.overflow_add-start
overflow_add-start g c =
    let r = c.requires in
    let room = text_room r.0 c.args.document.now c.args.segment c.args.start c.args.term.now (g.met.P.Port.lawful c.args.pen.now r.0 r.1) r.2 in
    omega (arith, room.1, room.2, c.loop-at-test.true, c.count_words-at-end.ensures.count)

pub text-place-requires-clause-segment : goal.text-place-requires-clause-segment
text-place-requires-clause-segment g c =
    let r = c.requires in
    let room = text_room r.0 c.args.document.now c.args.segment c.args.start c.args.term.now (g.met.P.Port.lawful c.args.pen.now r.0 r.1) r.2 in
    subst (λ (σ : Setting). c.args.segment < σ.segments) (sym (c.new-places.ensures ∙ c.config.ensures r.0 r.1)) room.0

pub text-place-requires-clause-at : goal.text-place-requires-clause-at
text-place-requires-clause-at g c =
    let r = c.requires in
    let room = text_room r.0 c.args.document.now c.args.segment c.args.start c.args.term.now (g.met.P.Port.lawful c.args.pen.now r.0 r.1) r.2 in
    let e = ap (λ (σ : Setting). σ.terms) (c.new-places.ensures ∙ c.config.ensures r.0 r.1) in
    omega (arith, room.1, c.loop-at-test.true, c.count_words-at-end.ensures.count, e)

pub store-requires : goal.store-requires
store-requires g c =
    let r = c.requires in
    let m = r.0 in
    let d = c.args.document.now in
    let s = c.args.segment in
    let t = c.args.term.now in
    let i = c.loop-at.at in
    let row = in_row s text_region c.args.start (text_of t) in
    let k = c.loop-at.invariant m r.1 r.2 in
    let is = g.met.P.Port.lawful c.args.pen.now m r.1 in
    let low : i < length (text_of t) = omega (arith, length-text_of t, c.loop-at-test.true, c.count_words-at-end.ensures.count) in
    let h = after_is m d row i is r.2 (text_goes_on m d s c.args.start t r.2) (omega (arith, length-in_row s c.args.start (text_of t))) in
    let x : Store = (slot s text_region (c.args.start + i), get_or (text_of t) i 0) in
    let next = next_of m (after_stores i m d) d row i x r.2 h (row_get s c.args.start (text_of t) i low) in
    let at = c.text-place.ensures.place ∙ ap (λ (σ : Setting). place σ (slot s text_region (c.args.start + i))) (c.new-places.ensures ∙ c.config.ensures m r.1) in
    (after_stores i m d, k.0, next_as (after_stores i m d) d (place m.setting x.0) c.text-place.result x.1 c.text_word.result next at c.text_word.ensures)

pub loop-at-preserved : goal.loop-at-preserved
loop-at-preserved g c m st n =
    let d = c.args.document.now in
    let s = c.args.segment in
    let t = c.args.term.now in
    let i = c.loop-at.at in
    let row = in_row s text_region c.args.start (text_of t) in
    let k = c.loop-at.invariant m st n in
    let is = g.met.P.Port.lawful c.args.pen.now m st in
    let low : i < length (text_of t) = omega (arith, length-text_of t, c.loop-at-test.true, c.count_words-at-end.ensures.count) in
    let h = after_is m d row i is n (text_goes_on m d s c.args.start t n) (omega (arith, length-in_row s c.args.start (text_of t))) in
    let x : Store = (slot s text_region (c.args.start + i), get_or (text_of t) i 0) in
    let next = next_of m (after_stores i m d) d row i x n h (row_get s c.args.start (text_of t) i low) in
    let at = c.text-place.ensures.place ∙ ap (λ (σ : Setting). place σ (slot s text_region (c.args.start + i))) (c.new-places.ensures ∙ c.config.ensures m st) in
    let o = c.store.ensures (after_stores i m d) k.0 (next_as (after_stores i m d) d (place m.setting x.0) c.text-place.result x.1 c.text_word.result next at c.text_word.ensures) in (
      subst (λ z. g.P.Port.stands c.store.new.self z) (sym (after_one m d i)) o.0,
      g.met.P.Port.same_on c.args.pen.now c.loop-at.pen c.store.new.self k.1 o.1,
    )

pub returns : goal.returns
returns g c m st n =
    let d = c.args.document.now in
    let s = c.args.segment in
    let t = c.args.term.now in
    let row = in_row s text_region c.args.start (text_of t) in
    let k = c.loop-at.invariant m st n in
    let is = g.met.P.Port.lawful c.args.pen.now m st in
    let end : c.loop-at.at ≡ text_words t = omega (arith, c.count_words-at-end.ensures.count, c.loop-at-test.false, c.loop-at.auto.at-end) in
    let closed = placed_is m d row c.loop-at.at is n (text_goes_on m d s c.args.start t n) (omega arith) (omega (arith, length-in_row s c.args.start (text_of t), length-text_of t)) in
    (subst (λ z. g.P.Port.stands c.loop-at.pen z) (closed ∙ ap (with_placed m d) end) k.0, k.1)
