use Rattle.std.proofs.Common.{◌≡◌, ◌<◌, ◌≤◌, ◌+◌, ℕ, length, ap, sym, subst, ◌∙◌, arith}
use Rattle.std.proofs.lemmas.List.Elements.{All-get_or}
use mathlib.Core.List.{IsPrefix}
use Rattle.eb_base.specs.Setting.{Setting}
use Rattle.eb_place.specs.Room.{cut}
use Rattle.eb_table.specs.Known.{Words}
use Rattle.eb_engine.specs.Tokens.{HistoryToken, ConverterToken}
use Rattle.eb_blend.proofs.Closings.{caught_up, rises}
use Rattle.eb_blend.proofs.Each.{as_many, as_many_converters, indexes_set, histories_set, converter_indexes_set, converter_fronts_set}
use Rattle.eb_blend.proofs.catching_up.catch_up_at.Goals as goal

pub returns : goal.returns
returns c =
    let ts = c.args.writers.now in
    let cs = c.args.converters.now in
    let ws = c.args.indexes.now in
    let n = c.args.at in
    let t = c.index-writers-at.result in
    let v = c.index-converters-at.result in
    let w = c.index-indexes-at.result in
    let e = c.catch_up_part.ensures in
    let a = c.index-writers-at.is in
    let b = c.index-converters-at.is in
    let new = c.catch_up_part.new.converter in
    let many : length ts ≡ length ws = as_many ts ws c.requires.made in
    let most : length cs ≡ length ws = as_many_converters cs ws c.requires.converters in
    let lt : n < length ts = omega (arith, many, c.requires.part) in
    let lc : n < length cs = omega (arith, most, c.requires.part) in
    record {
      indexes = indexes_set ts n t c.catch_up_part.new.writer a (e.index ∙ ap (λ (x : HistoryToken). x.index) (sym a));
      histories = histories_set ts n t c.catch_up_part.new.writer a (e.docs ∙ ap (λ (x : HistoryToken). x.docs) (sym a));
      converters = converter_indexes_set cs n v new b (e.converter ∙ ap (λ (x : ConverterToken). x.index) (sym b));
      known = converter_fronts_set cs n v new lc b (subst (λ (x : ConverterToken). IsPrefix x.docs new.docs) (sym b) e.known);
      rising = rises cs cs n v new lc b (subst (λ (x : ConverterToken). x.converted ≤ new.converted) (sym b) e.grown) (λ p. omega arith);
      part = λ σ all.
          let setting : w.setting ≡ σ = ap (λ (x : Words). x.setting) c.index-indexes-at.is ∙ All-get_or (λ (x : Words). x.setting ≡ σ) ws n w c.requires.part all in
          caught_up σ ts cs n t new lt lc a (subst (λ (x : HistoryToken). IsPrefix x.docs new.docs) (sym a) e.told)
          (subst (λ (x : Setting × HistoryToken). (s : ℕ) → s + 1 < length (cut x.0 x.1.docs) → s < new.converted) (λ i. (setting i, sym a i)) e.converted);
    }
