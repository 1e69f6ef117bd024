use Rattle.std.proofs.Common.{◌≡◌, ◌<◌, ◌≤◌, ◌+◌, ℕ, length, ap, sym, subst, ◌∙◌, arith}
use Rattle.std.proofs.lemmas.List.Elements.{All-get_or}
use mathlib.Core.List.{IsPrefix}
use Rattle.eb_base.specs.Setting.{Setting}
use Rattle.eb_place.specs.Room.{cut}
use Rattle.eb_table.specs.Known.{Words}
use Rattle.eb_engine.specs.Tokens.{ConverterToken}
use Rattle.eb_blend.proofs.Closings.{converts_more, rises}
use Rattle.eb_blend.proofs.Each.{as_many_converters, fronts_trans, converter_indexes_set, converter_fronts_set, other_history, length_converter_histories}
use Rattle.eb_blend.proofs.converter.convert_each.Goals as goal

pub loop-at-preserved : goal.loop-at-preserved
loop-at-preserved c =
    let inv = c.loop-at.invariant in
    let cs = c.loop-at.converters in
    let ws = c.args.indexes.now in
    let n = c.loop-at.at in
    let v = c.index-converters-at.result in
    let w = c.index-indexes-at.result in
    let new = c.convert_part.new.converter in
    let e = c.convert_part.ensures in
    let is = c.index-converters-at.is in
    let lt : n < length cs = omega (arith, c.loop-at-test.true) in
    let many : length cs ≡ length ws = as_many_converters cs ws (inv.indexes ∙ c.requires.made) in
    let knew : IsPrefix v.docs new.docs = subst (λ (x : ConverterToken). IsPrefix x.docs new.docs) (sym is) e.known in
    record {
      indexes = converter_indexes_set cs n v new is (e.index ∙ ap (λ (x : ConverterToken). x.index) (sym is)) ∙ inv.indexes;
      known = fronts_trans _ _ _ inv.known (converter_fronts_set cs n v new lt is knew);
      rest = λ p le. other_history cs n new p (λ q. omega (arith, le, q)) ∙ inv.rest p (omega (arith, le));
      rising = rises c.args.converters.now cs n v new lt is (subst (λ (x : ConverterToken). x.converted ≤ new.converted) (sym is) e.grown) inv.rising;
      converted = λ σ all.
          let setting : w.setting ≡ σ = ap (λ (x : Words). x.setting) c.index-indexes-at.is ∙ All-get_or (λ (x : Words). x.setting ≡ σ) ws n w (omega (arith, lt, many)) all in
          let now : (s : ℕ) → s + 1 < length (cut σ v.docs) → s < new.converted =
          subst (λ (x : Setting × ConverterToken). (s : ℕ) → s + 1 < length (cut x.0 x.1.docs) → s < new.converted) (λ i. (setting i, sym is i)) e.converted in
          converts_more σ c.args.converters.now cs n v new lt is (inv.rest n (omega arith)) now (inv.converted σ all);
    }

pub returns-clause-converted : goal.returns-clause-converted
returns-clause-converted c = λ σ all.
    let inv = c.loop-at.invariant in
    let cs = c.args.converters.now in
    let ws = c.args.indexes.now in
    let old : length cs ≡ length ws = as_many_converters cs ws c.requires.made in
    let new : length c.loop-at.converters ≡ length ws = as_many_converters c.loop-at.converters ws (inv.indexes ∙ c.requires.made) in
    let end = c.loop-at-test.false in
    record { each = λ p s lt low. inv.converted σ all p s (omega (arith, lt, length_converter_histories cs, old, new, end)) low }
