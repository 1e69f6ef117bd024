use Rattle.std.proofs.Common.{◌≡◌, ◌+◌, ◌++◌, ◌∷◌, [], List, length, length-append, ap, sym, subst, ◌∙◌}
use Rattle.std.proofs.lemmas.List.Elements.{All-push}
use Rattle.std.specs.List.{All}
use Rattle.eb_table.specs.Known.{Words}
use Rattle.eb_engine.specs.Tokens.{HistoryToken, ConverterToken}
use Rattle.eb_blend.specs.Parts.{indexes_of, histories_of, converter_indexes_of, converter_histories_of, converted_of}
use Rattle.eb_blend.proofs.Copies.{map_push, replicate_push}
use Rattle.eb_blend.proofs.blend.Blend.open.Goals as goal

pub loop-part-preserved : goal.loop-part-preserved
loop-part-preserved c =
    let inv = c.loop-part.invariant in
    let n = c.loop-part._part in
    let index = c.in_ok-index.index in
    let w = c.in_ok-index.ensures.writer in
    let v = c.in_ok-index.ensures.converter in
    let is : c.push.new.self.items ≡ c.loop-part.indexes.items ++ index ∷ [] = c.in_ok-push.ensures.items in
    let ws : c.push-in-loop-part.new.self.items ≡ c.loop-part.writers.items ++ c.in_ok-index.writer ∷ [] = c.in_ok-push-2.ensures.items in
    let vs : c.push-in-loop-part-2.new.self.items ≡ c.loop-part.converters.items ++ c.in_ok-index.converter ∷ [] = c.in_ok-push-3.ensures.items in
    record {
      settings = subst (λ (z : List Words). All (λ (x : Words). x.setting ≡ c.args.config) z) (sym is)
          (All-push (λ (x : Words). x.setting ≡ c.args.config) c.loop-part.indexes.items index inv.settings c.in_ok-index.ensures.setting);
      number = ap length is ∙ length-append c.loop-part.indexes.items (index ∷ []) ∙ ap (λ m. m + 1) inv.number;
      writers = ap indexes_of ws ∙ map_push (λ (x : HistoryToken). x.index) c.loop-part.writers.items c.in_ok-index.writer ∙ (λ i. inv.writers i ++ (w i).index ∷ []) ∙ sym is;
      empty = ap histories_of ws ∙ map_push (λ (x : HistoryToken). x.docs) c.loop-part.writers.items c.in_ok-index.writer ∙ (λ i. inv.empty i ++ (w i).docs ∷ []) ∙ replicate_push n [];
      converters = ap converter_indexes_of vs ∙ map_push (λ (x : ConverterToken). x.index) c.loop-part.converters.items c.in_ok-index.converter
          ∙ (λ i. inv.converters i ++ (v i).index ∷ []) ∙ sym is;
      unknown = ap converter_histories_of vs ∙ map_push (λ (x : ConverterToken). x.docs) c.loop-part.converters.items c.in_ok-index.converter
          ∙ (λ i. inv.unknown i ++ (v i).docs ∷ []) ∙ replicate_push n [];
      none = ap converted_of vs ∙ map_push (λ (x : ConverterToken). x.converted) c.loop-part.converters.items c.in_ok-index.converter ∙ (λ i. inv.none i ++ (v i).converted ∷ [])
          ∙ replicate_push n 0;
    }
