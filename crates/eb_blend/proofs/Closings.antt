-- Which segments are converted, and which are closed.
use Rattle.std.proofs.Common.{◌≡◌, ℕ, ◌+◌, ◌<◌, ◌≤◌, inl, inr, List, length, get_or, set, ap, sym, ◌∙◌, subst, arith}
use Rattle.std.proofs.lemmas.Bool.{cases_eq}
use Rattle.std.proofs.lemmas.List.{get_or-map}
use mathlib.Core.List.{IsPrefix}
use Rattle.eb_base.specs.Document.{Doc}
use Rattle.eb_base.specs.Setting.{Setting}
use Rattle.eb_place.specs.Room.{cut}
use Rattle.eb_place.proofs.CutSegments.{closed_stays}
use Rattle.eb_engine.specs.Tokens.{HistoryToken, ConverterToken, AreClosed}
use Rattle.eb_blend.specs.Parts.{histories_of, converter_histories_of, converted_of, tokens_of, history, IsCaughtUp}
use Rattle.eb_blend.proofs.Each.{history_at, converter_history_at, new_history, other_history, new_converted, other_converted}

-- where all but one of the segments are among the first n
pub few_left : (σ : Setting) (xs ys : List Doc) (n : ℕ) → IsPrefix xs ys → length (cut σ ys) ≤ n + 1 → (s : ℕ) → s + 1 < length (cut σ xs) → s < n
few_left σ xs ys n p few s h = let g = (closed_stays σ xs p.0 s h).0 in let g' = rw p.1 at g in omega (arith, g', few, h)

-- what is converted of the whole is converted of its prefixes
pub front_converted : (σ : Setting) (xs ys : List Doc) (n : ℕ) → IsPrefix xs ys → ((s : ℕ) → s + 1 < length (cut σ ys) → s < n) → (s : ℕ) → s + 1 < length (cut σ xs) → s < n
front_converted σ xs ys n p are s h = let g = (closed_stays σ xs p.0 s h).0 in let g' = rw p.1 at g in are s (omega (arith, g', h))

converted_at : (cs : List ConverterToken) (n : ℕ) (c : ConverterToken) → n < length cs → c ≡ get_or cs n c → get_or (converted_of cs) n 0 ≡ c.converted
converted_at cs n c lt a = get_or-map (λ (x : ConverterToken). x.converted) cs n c 0 lt ∙ ap (λ (x : ConverterToken). x.converted) (sym a)

-- one more part is heard
pub closed_more : (σ : Setting) (hs : List (List Doc)) (cs : List ConverterToken) (n : ℕ) (docs : List Doc) (c : ConverterToken) → n < length cs
    → history hs n ≡ docs → c ≡ get_or cs n c
    → AreClosed σ docs c.converted → ((p : ℕ) → p < n → AreClosed σ (history hs p) (get_or (converted_of cs) p 0))
    → (p : ℕ) → p < n + 1 → AreClosed σ (history hs p) (get_or (converted_of cs) p 0)
closed_more σ hs cs n docs c m a b now f p lt =
    let there = sym (converted_at cs n c m b) in
    elim (cases_eq p n) [
      | inl s ↦ subst (λ r. AreClosed σ (history hs r) (get_or (converted_of cs) r 0)) (sym s) (subst (λ (z : List Doc × ℕ). AreClosed σ z.0 z.1) (λ i. (sym a i, there i)) now)
      | inr ne ↦ f p (omega (arith, lt, ne))
    ]

-- one more part has converted
pub converts_more : (σ : Setting) (old cs : List ConverterToken) (n : ℕ) (v new : ConverterToken) → n < length cs → v ≡ get_or cs n v
    → history (converter_histories_of cs) n ≡ history (converter_histories_of old) n → ((s : ℕ) → s + 1 < length (cut σ v.docs) → s < new.converted)
    → ((p s : ℕ) → p < n → s + 1 < length (cut σ (history (converter_histories_of old) p)) → s < get_or (converted_of cs) p 0)
    → (p s : ℕ) → p < n + 1 → s + 1 < length (cut σ (history (converter_histories_of old) p)) → s < get_or (converted_of (set cs n new)) p 0
converts_more σ old cs n v new lt a same now f p s less low =
    let docs : history (converter_histories_of old) n ≡ v.docs = sym same ∙ converter_history_at cs n v lt a in
    elim (cases_eq p n) [
      | inl e ↦ subst (λ r. s < get_or (converted_of (set cs n new)) r 0) (sym e)
          (subst (λ r. s < r) (sym (new_converted cs n new lt)) (now s (subst (λ (z : List Doc). s + 1 < length (cut σ z)) (ap (history (converter_histories_of old)) e ∙ docs) low)))
      | inr ne ↦ subst (λ r. s < r) (sym (other_converted cs n new p ne)) (f p s (omega (arith, less, ne)) low)
    ]

-- one more part converts, and its number doesn't fall
pub rises : (old cs : List ConverterToken) (n : ℕ) (c new : ConverterToken) → n < length cs → c ≡ get_or cs n c → c.converted ≤ new.converted
    → ((p : ℕ) → get_or (converted_of old) p 0 ≤ get_or (converted_of cs) p 0) → (p : ℕ) → get_or (converted_of old) p 0 ≤ get_or (converted_of (set cs n new)) p 0
rises old cs n c new lt is grown low p = elim (cases_eq p n) [
  | inl s ↦ subst (λ q. get_or (converted_of old) q 0 ≤ get_or (converted_of (set cs n new)) q 0) (sym s)
      (omega (arith, low n, grown, converted_at cs n c lt is, new_converted cs n new lt))
  | inr ne ↦ omega (arith, low p, other_converted cs n new p ne)
]

-- one part is caught up with
pub caught_up : (σ : Setting) (ts : List HistoryToken) (cs : List ConverterToken) (n : ℕ) (t : HistoryToken) (new : ConverterToken) → n < length ts → n < length cs
    → t ≡ get_or ts n t → IsPrefix t.docs new.docs → ((s : ℕ) → s + 1 < length (cut σ t.docs) → s < new.converted)
    → IsCaughtUp σ (histories_of ts) n (tokens_of cs) (tokens_of (set cs n new))
caught_up σ ts cs n t new lt lc is told now =
    let docs : history (histories_of ts) n ≡ t.docs = history_at ts n t lt is in
    let known : history (converter_histories_of (set cs n new)) n ≡ new.docs = new_history cs n new lc in
    record {
      told = subst (λ (z : List Doc × List Doc). IsPrefix z.0 z.1) (λ i. (sym docs i, sym known i)) told;
      converted = λ s low. subst (λ r. s < r) (sym (new_converted cs n new lc)) (now s (subst (λ (z : List Doc). s + 1 < length (cut σ z)) docs low));
      others = λ q ne. (other_history cs n new q ne, other_converted cs n new q ne);
    }
