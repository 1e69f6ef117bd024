use Rattle.std.proofs.Common.{◌<◌, ◌||◌, ℕ, List, length, take, ap, sym, ◌∙◌, subst, arith}
use Rattle.std.specs.List.{list_any}
use Rattle.std.specs.Vec.{with_items}
use Rattle.std.proofs.lemmas.List.{with_items_is, take_all}
use Rattle.eb_base.specs.Setting.{Setting}
use Rattle.eb_base.specs.Term.{Term}
use Rattle.eb_bloom.specs.Bits.{Bits, is_set}
use Rattle.eb_bloom.proofs.Sizes.{are_inside}
use Rattle.eb_bloom.proofs.Covered.{AreNoted, is_bit_of, covers_next}
use Rattle.eb_bloom.proofs.filters.Filters.note.Goals as goal

pub set_bits-requires-clause-bit : goal.set_bits-requires-clause-bit
set_bits-requires-clause-bit c =
    let σ : Setting = c.self.inside.config in
    let is = c.self.invariant.0 in
    let low : c.args.segment < σ.segments = subst (λ (b : Bits). c.args.segment < b.setting.segments) (sym c.self.view_is) c.requires in
    let inside = are_inside σ c.mixed_hash_of-mixed.result c.terms-rows.result c.first_of-first.result c.second_of-second.result c.self.inside.lanes (length c.self.inside.words.items)
    is.setting c.mixed_hash_of-mixed.type_inv c.terms-rows.ensures c.first_of-first.ensures c.second_of-second.ensures c.self.invariant.1 is.number in
    omega (arith, inside.row c.args.segment low, c.loop-term.auto.words, ap length c.as_mut_slice-words.ensures.value)

pub set_bits-requires-clause-other : goal.set_bits-requires-clause-other
set_bits-requires-clause-other c =
    let σ : Setting = c.self.inside.config in
    let is = c.self.invariant.0 in
    let low : c.args.segment < σ.segments = subst (λ (b : Bits). c.args.segment < b.setting.segments) (sym c.self.view_is) c.requires in
    let inside = are_inside σ c.mixed_hash_of-mixed.result c.terms-rows.result c.first_of-first.result c.second_of-second.result c.self.inside.lanes (length c.self.inside.words.items)
    is.setting c.mixed_hash_of-mixed.type_inv c.terms-rows.ensures c.first_of-first.ensures c.second_of-second.ensures c.self.invariant.1 is.number in
    omega (arith, inside.other c.args.segment low, c.loop-term.auto.words, ap length c.as_mut_slice-words.ensures.value)

pub returns-clause-covers : goal.returns-clause-covers
returns-clause-covers c σ docs h last =
    let was : Bits = c.args.self.now in
    let s : ℕ = c.args.segment in
    let items = with_items_is c.self.inside.words c.loop-term.words (c.loop-term.auto.words ∙ c.as_mut_slice-words.ensures.len) in
    let before = c.as_mut_slice-words.ensures.value ∙ ap (λ (b : Bits). b.words) c.self.view_is in
    let all = take_all c.loop-term.term-index c.as_slice-term-items.result.now c.loop-term-test.false ∙ c.as_slice-term-items.ensures ∙ c.terms.ensures.terms in
    let new : Bits = record { setting = c.self.inside.config; words = (with_items c.self.inside.words c.loop-term.words).items } in
    let noted : AreNoted was new s c.args.document.now = λ i. ap (λ z. is_set z i) items ∙ c.loop-term.invariant i
    ∙ ap (λ z. is_set z i || list_any (λ t. is_bit_of was.setting s t i) (take c.loop-term.term-index c.as_slice-term-items.result.now)) before
    ∙ ap (λ (ts : List Term). is_set was.words i || list_any (λ t. is_bit_of was.setting s t i) ts) all in
    covers_next was new s σ docs c.args.document.now noted (ap (λ (b : Bits). b.setting) c.self.view_is) h last
