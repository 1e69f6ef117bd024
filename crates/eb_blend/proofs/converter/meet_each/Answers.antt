use Rattle.std.proofs.Common.{◌≡◌, ◌<◌, ◌++◌, ◌∷◌, [], length, length-append, get_or, ap, sym, subst, ◌∙◌, arith}
use mathlib.Core.List.{IsPrefix}
use Rattle.eb_engine.specs.Tokens.{ConverterToken}
use Rattle.eb_blend.proofs.Each.{as_many, as_many_converters, fronts_trans, converter_indexes_set, converter_fronts_set, converted_set, converter_met_more, front_less, last_of_front, inside_front}
use Rattle.eb_blend.proofs.converter.meet_each.Goals as goal

pub loop-reader-preserved : goal.loop-reader-preserved
loop-reader-preserved c =
    let inv = c.loop-reader.invariant in
    let cs = c.loop-reader.converters in
    let rs = c.args.readers.items in
    let ws = c.args.indexes.now in
    let left = c.pop.new.self.items in
    let r = c.in-Some.reader in
    let v = c.index-converters-at.result in
    let new = c.meet.new.self in
    let e = c.meet.ensures in
    let is = c.index-converters-at.is in
    let items : c.loop-reader.readers.items ≡ left ++ r ∷ [] = c.in-Some.ensures.items in
    let len = c.len-at.ensures in
    let at : c.len-at.result ≡ length left = grind (arith, len) in
    let n = c.len-at.result in
    let many : length cs ≡ length ws = as_many_converters cs ws (inv.indexes ∙ c.requires.made) in
    let most : length rs ≡ length ws = as_many rs ws c.requires.readers in
    let inside = inside_front left c.loop-reader.readers.items rs r items inv.front in
    let lr : n < length rs = omega (arith, at, inside) in
    let lt : n < length cs = omega (arith, lr, many, most) in
    let b : r ≡ get_or rs n r = last_of_front left c.loop-reader.readers.items rs r items inv.front ∙ ap (λ m. get_or rs m r) (sym at) in
    let knew : IsPrefix v.docs new.docs = subst (λ (x : ConverterToken). IsPrefix x.docs new.docs) (sym is) e.this in
    record {
      indexes = converter_indexes_set cs n v new is (e.index ∙ ap (λ (x : ConverterToken). x.index) (sym is)) ∙ inv.indexes;
      converted = converted_set cs n v new is (e.converted ∙ ap (λ (x : ConverterToken). x.converted) (sym is)) ∙ inv.converted;
      this = fronts_trans _ _ _ inv.this (converter_fronts_set cs n v new lt is knew);
      front = front_less left c.loop-reader.readers.items rs r items inv.front;
      done = λ p le. converter_met_more cs rs n new r lt lr b e.reader (λ m more. inv.done m (omega (arith, more, at, ap length items, length-append left (r ∷ [])))) p (omega (arith, le, at));
    }
