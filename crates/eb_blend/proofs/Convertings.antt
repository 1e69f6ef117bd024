-- The converters of all parts convert, each by itself.
use Rattle.std.proofs.Common.{◌≡◌, ℕ, ◌+◌, ◌<◌, ◌≤◌, List, [], ◌∷◌, length, get_or, ap, sym, ◌∙◌, subst, arith, inl, inr}
use Rattle.std.proofs.lemmas.Bool.{cases_lt}
use Rattle.std.proofs.lemmas.List.{get_or-map, get_or_past}
use Rattle.std.specs.List.{All}
use Rattle.std.proofs.lemmas.List.Elements.{All-get_or}
use mathlib.Core.List.{IsPrefix}
use Rattle.eb_base.specs.Document.{Doc}
use Rattle.eb_base.specs.Setting.{Setting}
use Rattle.eb_place.specs.Room.{cut}
use Rattle.eb_table.specs.Known.{Words}
use Rattle.eb_engine.specs.Tokens.{ConverterToken}
use Rattle.eb_blend.specs.Converting.{HasConverted}
use Rattle.eb_blend.specs.Parts.{converter_indexes_of, converter_histories_of, converted_of, history, AreFronts, AllConverted}
use Rattle.eb_blend.proofs.Closings.{front_converted}
use Rattle.eb_blend.proofs.Each.{length_map, fronts_all, as_many_converters}
use Rattle.eb_blend.proofs.Turns.{by_gets}

head_of : {A : Type 0} (xs : List A) → 0 < length xs → A
head_of [] lt = absurd (omega (arith, lt))
head_of (x ∷ xs) lt = x

module _ (ws : List Words) (old new : List ConverterToken) (some : 0 < length old) (made : converter_indexes_of old ≡ ws) (long : length new ≡ length old)
    (each : (p : ℕ) (w : Words) (c : ConverterToken) → p < length old → w ≡ get_or ws p w → HasConverted w.setting (get_or old p c) (get_or new p c)) where
  any : ConverterToken
  any = head_of old some

  index_is : (p : ℕ) → p < length old → (get_or old p any).index ≡ get_or ws p (get_or old p any).index
  index_is p lt =
      let w = (get_or old p any).index in
      sym (get_or-map (λ (x : ConverterToken). x.index) old p any w lt) ∙ ap (λ z. get_or z p w) made

  done : (p : ℕ) → p < length old → HasConverted (get_or old p any).index.setting (get_or old p any) (get_or new p any)
  done p lt = each p (get_or old p any).index any lt (index_is p lt)

  pub kept_indexes : converter_indexes_of new ≡ converter_indexes_of old
  kept_indexes =
      let w = any.index in
      by_gets w (converter_indexes_of new) (converter_indexes_of old)
      (length_map (λ (x : ConverterToken). x.index) new ∙ long ∙ sym (length_map (λ (x : ConverterToken). x.index) old))
      (λ p lt.
      let n : p < length new = omega (arith, lt, length_map (λ (x : ConverterToken). x.index) new) in
      let o : p < length old = omega (arith, n, long) in
      get_or-map (λ (x : ConverterToken). x.index) new p any w n ∙ (done p o).index ∙ sym (get_or-map (λ (x : ConverterToken). x.index) old p any w o))

  docs_old : (p : ℕ) → p < length old → history (converter_histories_of old) p ≡ (get_or old p any).docs
  docs_old p lt = get_or-map (λ (x : ConverterToken). x.docs) old p any [] lt

  pub known_more : AreFronts (converter_histories_of old) (converter_histories_of new)
  known_more =
      let a = length_map (λ (x : ConverterToken). x.docs) old in
      let b = length_map (λ (x : ConverterToken). x.docs) new in
      fronts_all (converter_histories_of old) (converter_histories_of new) (length old) (a ∙ sym long ∙ sym b) (omega (arith, a))
      (λ p o.
      let n : p < length new = omega (arith, o, long) in
      let there : history (converter_histories_of new) p ≡ (get_or new p any).docs = get_or-map (λ (x : ConverterToken). x.docs) new p any [] n in
      subst (λ (z : List Doc × List Doc). IsPrefix z.0 z.1) (λ i. (sym (docs_old p o) i, sym there i)) (done p o).known)

  pub rising_more : (p : ℕ) → get_or (converted_of old) p 0 ≤ get_or (converted_of new) p 0
  rising_more p = elim (cases_lt p (length old)) [
    | inl lt ↦
        let n : p < length new = omega (arith, lt, long) in
        omega (
          arith,
          (done p lt).grown,
          get_or-map (λ (x : ConverterToken). x.converted) old p any 0 lt,
          get_or-map (λ (x : ConverterToken). x.converted) new p any 0 n,
        )
    | inr ge ↦ omega (arith, get_or_past (converted_of old) p 0 (omega (arith, ge, length_map (λ (x : ConverterToken). x.converted) old)))
  ]

  pub all_converted : (σ : Setting) (hs : List (List Doc)) → All (λ w. w.setting ≡ σ) ws → AreFronts hs (converter_histories_of old) → AllConverted σ hs (converted_of new)
  all_converted σ hs all fronts = record {
    each = λ p s lt low.
        let a = length_map (λ (x : ConverterToken). x.docs) old in
        let o : p < length old = omega (arith, lt, fronts.parts, a) in
        let n : p < length new = omega (arith, o, long) in
        let many : length old ≡ length ws = as_many_converters old ws made in
        let setting : (get_or old p any).index.setting ≡ σ =
        ap (λ (x : Words). x.setting) (index_is p o) ∙ All-get_or (λ (x : Words). x.setting ≡ σ) ws p (get_or old p any).index (omega (arith, o, many)) all in
        let are : (t : ℕ) → t + 1 < length (cut σ (get_or old p any).docs) → t < (get_or new p any).converted =
        subst (λ (z : Setting). (t : ℕ) → t + 1 < length (cut z (get_or old p any).docs) → t < (get_or new p any).converted) setting (done p o).converted in
        let pre : IsPrefix (history hs p) (get_or old p any).docs = subst (λ z. IsPrefix (history hs p) z) (docs_old p o) (fronts.each p) in
        let there : get_or (converted_of new) p 0 ≡ (get_or new p any).converted = get_or-map (λ (x : ConverterToken). x.converted) new p any 0 n in
        subst (λ z. s < z) (sym there) (front_converted σ (history hs p) (get_or old p any).docs (get_or new p any).converted pre are s low);
  }
