use Rattle.std.proofs.Common.{◌<◌, ◌≤◌, ◌&&◌, length, ap, sym, ◌∙◌, subst, arith}
use Rattle.eb_base.specs.Setting.{Setting}
use Rattle.eb_bloom.specs.Bits.{Bits, is_noted}
use Rattle.eb_bloom.proofs.Rows.{are_rows, both_noted}
use Rattle.eb_bloom.proofs.Sizes.{are_inside}
use Rattle.eb_marks.proofs.Flags.{marked_and}
use Rattle.eb_bloom.proofs.filters.Filters.marks.Goals as goal

pub bits_from-requires : goal.bits_from-requires
bits_from-requires c =
    let σ : Setting = c.self.inside.config in
    let is = c.self.invariant.0 in
    let inside = are_inside σ c.mixed_hash_of-mixed.result c.terms.result c.first_of-first.result c.second_of-second.result c.self.inside.lanes (length c.self.inside.words.items)
    is.setting c.mixed_hash_of-mixed.type_inv c.terms.ensures c.first_of-first.ensures c.second_of-second.ensures c.self.invariant.1 is.number in
    omega (arith, inside.row 0 (omega (arith, is.setting.segments.0)), ap length c.as_slice-words.ensures.value)

pub bits_from-requires-2 : goal.bits_from-requires-2
bits_from-requires-2 c =
    let σ : Setting = c.self.inside.config in
    let is = c.self.invariant.0 in
    let inside = are_inside σ c.mixed_hash_of-mixed.result c.terms.result c.first_of-first.result c.second_of-second.result c.self.inside.lanes (length c.self.inside.words.items)
    is.setting c.mixed_hash_of-mixed.type_inv c.terms.ensures c.first_of-first.ensures c.second_of-second.ensures c.self.invariant.1 is.number in
    omega (arith, inside.other 0 (omega (arith, is.setting.segments.0)), ap length c.as_slice-words.ensures.value)

pub returns-clause-noted : goal.returns-clause-noted
returns-clause-noted c s low =
    let σ : Setting = c.self.inside.config in
    let is = c.self.invariant.0 in
    let t = c.args.term.now in
    let begun : s < σ.segments = omega (arith, low, subst (λ (b : Bits). c.args.begun ≤ b.setting.segments) (sym c.self.view_is) c.requires.begun) in
    let inside = are_inside σ c.mixed_hash_of-mixed.result c.terms.result c.first_of-first.result c.second_of-second.result c.self.inside.lanes (length c.self.inside.words.items)
    is.setting c.mixed_hash_of-mixed.type_inv c.terms.ensures c.first_of-first.ensures c.second_of-second.ensures c.self.invariant.1 is.number in
    let rows = are_rows σ t c.mixed_hash_of-mixed.result c.terms.result c.first_of-first.result c.second_of-second.result c.self.inside.lanes
    c.mixed_hash_of-mixed.ensures c.terms.ensures c.first_of-first.ensures c.second_of-second.ensures c.self.invariant.1 in
    let own : Bits = record { setting = σ; words = c.self.inside.words.items } in
    let one = c.bits_from.ensures s (inside.word c.first_of-first.result s begun) in
    let two = c.bits_from-2.ensures s (inside.word c.second_of-second.result s begun) in
    c.marked.ensures.marked s low
    ∙ marked_and c.bits_from.result c.bits_from-2.result s
    ∙ (λ i. one i && two i)
    ∙ both_noted own s t c.as_slice-words.result.now c.first_of-first.result c.second_of-second.result c.self.inside.lanes rows c.as_slice-words.ensures.value
    ∙ ap (λ (b : Bits). is_noted b s t) c.self.view_is
