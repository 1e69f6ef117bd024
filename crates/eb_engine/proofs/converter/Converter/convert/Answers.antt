use Rattle.std.proofs.Common.{◌≡◌, ℕ, ◌+◌, ◌<◌, ◌≤◌, ◌⊎◌, List, length, ap, sym, ◌∙◌, subst, refl, arith}
use mathlib.Core.List.{IsPrefix}
use Rattle.eb_base.specs.Document.{Doc}
use Rattle.eb_base.specs.Setting.{Setting}
use Rattle.eb_place.specs.Room.{cut}
use Rattle.eb_table.specs.Known.{Words, Known}
use Rattle.eb_convert.specs.declared.conversion.Converted.{Converted}
use Rattle.eb_convert.specs.Converting.{first_word}
use Rattle.eb_place.specs.declared.moment.Moment.{Moment}
use Rattle.eb_engine.specs.Tokens.{ConverterToken, index_of, placed_by, known_to, Converts}
use Rattle.eb_engine.proofs.Converting.{known_at, knows_on, known_lawful, next_inside, closing, none_behind, not_told}
use Rattle.eb_engine.proofs.converter.Converter.convert.Goals as goal

-- what the converter is to a contract at this moment
abbrev token : Moment → Known → ℕ → ConverterToken
token n seat count = record { index = index_of seat; docs = n.documents.accepted; placing = placed_by n.documents.current; converted = count }

pub convert_in_words-done-requires-clause-segment : goal.convert_in_words-done-requires-clause-segment
convert_in_words-done-requires-clause-segment c =
    let own = ap (λ (t : ConverterToken). t.index.setting) c.self.view_is in
    let index = ap (λ (w : Words). w.setting) c.index.view_is in
    let same = ap (λ (w : Words). w.setting) c.requires in
    next_inside c.self.inside.seat.moment c.index.inside.words.setting c.self.inside.converted c.self.invariant.0 (own ∙ same ∙ sym index) c.self.invariant.1

pub overflow_add-self : goal.overflow_add-self
overflow_add-self c =
    let m = c.self.inside.seat.moment in
    let most = c.self.invariant.0.setting.segments.1 in
    let inside = next_inside m m.setting c.self.inside.converted c.self.invariant.0 refl c.self.invariant.1 in
    omega (arith, inside, most)

pub returns-in-One-clause-converts : goal.returns-in-One-clause-converts
returns-in-One-clause-converts c =
    let count = ap (λ (t : ConverterToken). t.converted) c.self.view_is in
    let index = ap (λ (w : Words). w.setting) c.index.view_is in
    let made = c.convert_in_words-done.ensures.made in
    let k = c.in-One.ensures.conversion in
    let n = c.convert_in_words-done.new.seat.moment in
    let σ = c.args.index.now.setting in
    let new : ConverterToken = token n c.convert_in_words-done.new.seat (c.self.inside.converted + 1) in
    let closed = closing n σ c.self.inside.converted made.moment (made.setting ∙ index) k.1 in
    subst (λ (d : Converted). Converts σ c.args.self.now new d) (sym c.in-One.is)
    (k.0 ∙ count, ap (λ (s : ℕ). s + 1) count, subst (λ (s : ℕ). s + 1 < length (cut σ (known_at n))) (sym k.0) closed)

pub returns-in-One-clause-all : goal.returns-in-One-clause-all
returns-in-One-clause-all c =
    let n = c.convert_in_words-done.new.seat.moment in
    subst (λ (docs : List Doc). IsPrefix docs (known_at n)) (ap known_to c.self.view_is) (knows_on c.self.inside.seat.moment n c.convert_in_words-done.ensures.later)

pub returns-in-One-clause-lawful : goal.returns-in-One-clause-lawful
returns-in-One-clause-lawful c =
    let made = c.convert_in_words-done.ensures.made in
    known_lawful c.convert_in_words-done.new.seat.moment c.args.index.now.setting made.moment (made.setting ∙ ap (λ (w : Words). w.setting) c.index.view_is)

pub returns-in_default-clause-all : goal.returns-in_default-clause-all
returns-in_default-clause-all c =
    let n = c.convert_in_words-done.new.seat.moment in
    subst (λ (docs : List Doc). IsPrefix docs (known_at n)) (ap known_to c.self.view_is) (knows_on c.self.inside.seat.moment n c.convert_in_words-done.ensures.later)

pub returns-in_default-clause-lawful : goal.returns-in_default-clause-lawful
returns-in_default-clause-lawful c =
    let made = c.convert_in_words-done.ensures.made in
    known_lawful c.convert_in_words-done.new.seat.moment c.args.index.now.setting made.moment (made.setting ∙ ap (λ (w : Words). w.setting) c.index.view_is)

pub returns-in_default-clause-converts : goal.returns-in_default-clause-converts
returns-in_default-clause-converts c =
    let count = ap (λ (t : ConverterToken). t.converted) c.self.view_is in
    let index = ap (λ (w : Words). w.setting) c.index.view_is in
    let own = ap (λ (t : ConverterToken). t.index.setting) c.self.view_is in
    let same = ap (λ (w : Words). w.setting) c.requires in
    let made = c.convert_in_words-done.ensures.made in
    let k = c.in_default.ensures.conversion in
    let s = c.self.inside.converted in
    let n = c.convert_in_words-done.new.seat.moment in
    let σ = c.args.index.now.setting in
    let new : ConverterToken = token n c.convert_in_words-done.new.seat s in
    let few = none_behind n σ s made.moment (made.setting ∙ index) (subst (λ (τ : Setting). (s + 1 ≡ τ.segments) ⊎ (first_word n (s + 1) ≡ 0)) (own ∙ same) k.1) in
    subst (λ (d : Converted). Converts σ c.args.self.now new d) (sym c.in_default.is)
    (count, subst (λ (s : ℕ). length (cut σ (known_at n)) ≤ s + 1) count few)

pub returns-in_default-clause-told : goal.returns-in_default-clause-told
returns-in_default-clause-told c =
    let count = ap (λ (t : ConverterToken). t.converted) c.self.view_is in
    let index = ap (λ (w : Words). w.setting) c.index.view_is in
    let own = ap (λ (t : ConverterToken). t.index.setting) c.self.view_is in
    let same = ap (λ (w : Words). w.setting) c.requires in
    let made = c.convert_in_words-done.ensures.made in
    let k = c.in_default.ensures.conversion in
    let s = c.self.inside.converted in
    let m = c.self.inside.seat.moment in
    let n = c.convert_in_words-done.new.seat.moment in
    let σ = c.args.index.now.setting in
    let few = none_behind n σ s made.moment (made.setting ∙ index) (subst (λ (τ : Setting). (s + 1 ≡ τ.segments) ⊎ (first_word n (s + 1) ≡ 0)) (own ∙ same) k.1) in
    let front = subst (λ (docs : List Doc). IsPrefix docs (known_at n)) (ap known_to c.self.view_is) (knows_on m n c.convert_in_words-done.ensures.later) in
    λ low. absurd (not_told σ (known_to c.args.self.now) (known_at n) c.args.self.now.converted front
    (subst (λ (s : ℕ). length (cut σ (known_at n)) ≤ s + 1) count few) low)
