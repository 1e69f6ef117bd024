use Rattle.std.proofs.Common.{◌≡◌, ◌<◌, length, get_or, refl, ap, sym, subst, ◌∙◌, arith}
use mathlib.Core.List.{IsPrefix}
use Rattle.eb_engine.specs.Tokens.{HistoryToken, ConverterToken}
use Rattle.eb_blend.specs.Parts.{histories_of, converter_histories_of}
use Rattle.eb_blend.proofs.Each.{as_many, as_many_converters, set_same, fronts_self, fronts_trans, fronts_all}
use Rattle.eb_blend.proofs.Each.{converter_indexes_set, converter_fronts_set, converted_set, told_more, length_histories, length_converter_histories}
use Rattle.eb_blend.proofs.catching_up.tell_each.Goals as goal

pub loop-at-init : goal.loop-at-init
loop-at-init c = record { writers = refl; indexes = refl; converted = refl; known = fronts_self (converter_histories_of c.args.converters.now); told = λ p lt. absurd (omega (arith, lt)) }

pub loop-at-preserved : goal.loop-at-preserved
loop-at-preserved c =
    let inv = c.loop-at.invariant in
    let n = c.loop-at.at in
    let ts = c.args.writers.now in
    let us = c.loop-at.writers in
    let cs = c.loop-at.converters in
    let ws = c.args.indexes.now in
    let t = c.index-writers-at.result in
    let v = c.index-converters-at.result in
    let new = c.meet.new.self in
    let e = c.meet.ensures in
    let a = c.index-writers-at.is in
    let b = c.index-converters-at.is in
    let many : length ts ≡ length ws = as_many ts ws c.requires.made in
    let most : length c.args.converters.now ≡ length ws = as_many_converters c.args.converters.now ws c.requires.converters in
    let lw : n < length ws = omega (arith, c.loop-at-test.true) in
    let lt : n < length ts = omega (arith, lw, many) in
    let lu : n < length us = omega (arith, lt, c.loop-at.auto.writers) in
    let lc : n < length cs = omega (arith, lw, most, c.loop-at.auto.converters) in
    let own : t ≡ get_or ts n t = a ∙ ap (λ z. get_or z n t) inv.writers in
    let knew : IsPrefix v.docs new.docs = subst (λ (x : ConverterToken). IsPrefix x.docs new.docs) (sym b) e.this in
    let told : IsPrefix t.docs new.docs = subst (λ (x : HistoryToken). IsPrefix x.docs new.docs) (c.reader-reader.ensures.reader ∙ sym a) e.reader in
    record {
      writers = set_same us n c.reader-reader.new.self t lu a (c.reader-reader.ensures.this ∙ sym a) ∙ inv.writers;
      indexes = converter_indexes_set cs n v new b (e.index ∙ ap (λ (x : ConverterToken). x.index) (sym b)) ∙ inv.indexes;
      converted = converted_set cs n v new b (e.converted ∙ ap (λ (x : ConverterToken). x.converted) (sym b)) ∙ inv.converted;
      known = fronts_trans _ _ _ inv.known (converter_fronts_set cs n v new lc b knew);
      told = told_more ts cs n t new lt lc own told inv.told;
    }

pub returns : goal.returns
returns c =
    let inv = c.loop-at.invariant in
    let ts = c.args.writers.now in
    let cs = c.loop-at.converters in
    let ws = c.args.indexes.now in
    let many : length ts ≡ length ws = as_many ts ws c.requires.made in
    let most : length c.args.converters.now ≡ length ws = as_many_converters c.args.converters.now ws c.requires.converters in
    let h = length_histories ts in
    let k = length_converter_histories cs in
    record {
      writers = inv.writers;
      indexes = inv.indexes;
      converted = inv.converted;
      known = inv.known;
      told = fronts_all (histories_of ts) (converter_histories_of cs) c.loop-at.at (omega (arith, many, most, h, k, c.loop-at.auto.converters)) (omega (arith, many, h, c.loop-at-test.false)) inv.told;
    }
