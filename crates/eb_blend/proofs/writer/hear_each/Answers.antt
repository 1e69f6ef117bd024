use Rattle.std.proofs.Common.{◌≡◌, ◌<◌, List, length, get_or, ap, sym, subst, ◌∙◌, arith}
use Rattle.std.proofs.lemmas.List.Elements.{All-get_or}
use mathlib.Core.List.{IsPrefix}
use Rattle.eb_base.specs.Document.{Doc}
use Rattle.eb_base.specs.Setting.{Setting}
use Rattle.eb_table.specs.Known.{Words}
use Rattle.eb_engine.specs.Tokens.{HistoryToken, ConverterToken, AreClosed}
use Rattle.eb_blend.specs.Parts.{history, histories_of, converter_histories_of, converted_of, AreFronts, AllClosed}
use Rattle.eb_blend.proofs.Closings.{closed_more}
use Rattle.eb_blend.proofs.Each.{as_many, as_many_converters, set_same, indexes_set, histories_set, history_at, heard_more, fronts_all, length_histories, length_converter_histories}
use Rattle.eb_blend.proofs.writer.hear_each.Goals as goal

pub loop-at-preserved : goal.loop-at-preserved
loop-at-preserved c =
    let inv = c.loop-at.invariant in
    let n = c.loop-at.at in
    let ts = c.args.writers.now in
    let us = c.loop-at.writers in
    let cs = c.args.converters.now in
    let ws = c.args.indexes.now in
    let t = c.index-writers-at.result in
    let v = c.index-converters-at.result in
    let e = c.hear.ensures in
    let many : length ts ≡ length ws = as_many ts ws c.requires.made in
    let most : length cs ≡ length ws = as_many_converters cs ws c.requires.converters in
    let same : length us ≡ length ts = sym (length_histories us) ∙ ap length inv.histories ∙ length_histories ts in
    let sames : length c.loop-at.converters ≡ length cs = ap length inv.converters in
    let lt : n < length us = omega (arith, c.loop-at-test.true, same) in
    let lc : n < length cs = omega (arith, lt, same, many, most) in
    let index : c.hear.new.self.index ≡ t.index = ap (λ (x : HistoryToken). x.index) e.this ∙ ap (λ (x : HistoryToken). x.index) (sym c.index-writers-at.is) in
    let docs : c.hear.new.self.docs ≡ t.docs = ap (λ (x : HistoryToken). x.docs) e.this ∙ ap (λ (x : HistoryToken). x.docs) (sym c.index-writers-at.is) in
    let at : history (histories_of ts) n ≡ c.hear.new.self.docs =
    ap (λ (z : List (List Doc)). history z n) (sym inv.histories) ∙ history_at us n t lt c.index-writers-at.is ∙ sym docs in
    let b : v ≡ get_or cs n v = c.index-converters-at.is ∙ ap (λ (z : List ConverterToken). get_or z n v) inv.converters in
    let that : c.hear.new.converter ≡ v = e.converter ∙ sym c.index-converters-at.is in
    record {
      indexes = indexes_set us n t c.hear.new.self c.index-writers-at.is index ∙ inv.indexes;
      histories = histories_set us n t c.hear.new.self c.index-writers-at.is docs ∙ inv.histories;
      converters = set_same c.loop-at.converters n c.hear.new.converter v (omega (arith, lc, sames)) c.index-converters-at.is that ∙ inv.converters;
      fronts = heard_more (histories_of ts) cs n c.hear.new.self.docs v lc at b (subst (λ (x : ConverterToken). IsPrefix x.docs c.hear.new.self.docs) (sym c.index-converters-at.is) e.told) inv.fronts;
      closed = λ σ all.
          let setting = ap (λ (x : Words). x.setting) c.index-indexes-at.is ∙ All-get_or (λ (x : Words). x.setting ≡ σ) ws n c.index-indexes-at.result (omega (arith, lt, same, many)) all in
          closed_more σ (histories_of ts) cs n c.hear.new.self.docs v lc at b
          (subst (λ (x : Setting × ConverterToken). AreClosed x.0 c.hear.new.self.docs x.1.converted) (λ i. (setting i, sym c.index-converters-at.is i)) e.closed) (inv.closed σ all);
    }

pub returns-clause-fronts : goal.returns-clause-fronts
returns-clause-fronts c =
    let inv = c.loop-at.invariant in
    let ts = c.args.writers.now in
    let us = c.loop-at.writers in
    let cs = c.args.converters.now in
    let ws = c.args.indexes.now in
    let many : length ts ≡ length ws = as_many ts ws c.requires.made in
    let most : length cs ≡ length ws = as_many_converters cs ws c.requires.converters in
    let same : length us ≡ length ts = sym (length_histories us) ∙ ap length inv.histories ∙ length_histories ts in
    let end = c.loop-at-test.false in
    let f = fronts_all (converter_histories_of cs) (histories_of ts) c.loop-at.at (omega (arith, many, most, length_histories ts, length_converter_histories cs))
    (omega (arith, many, most, length_converter_histories cs, end, same)) inv.fronts in
    subst (λ (z : List (List Doc)). AreFronts (converter_histories_of cs) z) (sym inv.histories) f

pub returns-clause-closed : goal.returns-clause-closed
returns-clause-closed c = λ σ all.
    let inv = c.loop-at.invariant in
    let ts = c.args.writers.now in
    let us = c.loop-at.writers in
    let same : length us ≡ length ts = sym (length_histories us) ∙ ap length inv.histories ∙ length_histories ts in
    let end = c.loop-at-test.false in
    subst (λ (z : List (List Doc)). AllClosed σ z (converted_of c.args.converters.now)) (sym inv.histories)
    (record { each = λ p lt. inv.closed σ all p (omega (arith, lt, length_histories ts, end, same)) })
