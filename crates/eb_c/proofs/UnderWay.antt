-- Adds of many texts that are under way.
use Rattle.std.proofs.Common.{◌≡◌, ◌≢◌, ℕ, suc, ◌+◌, ◌<◌, List, [], ◌∷◌, length, get_or, drop, drop-cons, inl, inr, refl, sym, ap, ◌∙◌, subst, arith}
use Rattle.eb_c.specs.declared.held.Held.{Held}
use Rattle.eb_c.specs.declared.adding_many.Text.{Text}
use Rattle.eb_c.specs.AddingMany.{AddsEach}

-- what the adds of the texts from here on come to, those of all come to, which began before
abbrev pub IsUnderWay : {W : Type 0} → (W → Held) → (Text → W → ℕ → W → Type 0) → List Text → ℕ → Held → Held → Type 0
IsUnderWay {W = W} To Adds texts at before now = (w : W) → before ≡ To w
    → (x : W) × (now ≡ To x) × ((rest number : ℕ) (v : W) → AddsEach Adds (drop at texts) x rest number v → AddsEach Adds texts w (at + rest) number v)

module _ {W : Type 0} (To : W → Held) (Adds : Text → W → ℕ → W → Type 0) (texts : List Text) where
  as_many : (w : W) (n m number : ℕ) (v : W) → n ≡ m → AddsEach Adds texts w n number v → AddsEach Adds texts w m number v
  as_many w n m number v e a = subst (λ k. AddsEach Adds texts w k number v) e a

  pub begins : (now : Held) → IsUnderWay To Adds texts 0 now now
  begins now w e = (w, e, λ rest number v a. let is : rest ≡ 0 + rest = omega arith in as_many w rest (0 + rest) number v is a)

  pub goes_on : (at number : ℕ) (text : Text) (before now new : Held) → at < length texts → number ≡ 0
      → ((w : W) → now ≡ To w → (v : W) × (new ≡ To v) × Adds (get_or texts at text) w number v) → IsUnderWay To Adds texts at before now
      → IsUnderWay To Adds texts (at + 1) before new
  unfolding AddsEach
  goes_on at number text before now new lt none adds going w e =
      let x = going w e in
      let y = adds x.0 x.1 in
      let here = get_or texts at text in (
        y.0,
        y.1,
        λ rest last v a.
            let next : at + 1 ≡ suc at = omega arith in
            let count : at + suc rest ≡ at + 1 + rest = omega arith in
            let added : Adds here x.0 0 y.0 = subst (λ n. Adds here x.0 n y.0) none y.2 in
            let from : AddsEach Adds (here ∷ drop (suc at) texts) x.0 (suc rest) last v =
            inr (rest, y.0, refl, added, subst (λ n. AddsEach Adds (drop n texts) y.0 rest last v) next a) in
            as_many w (at + suc rest) (at + 1 + rest) last v count
            (x.2 (suc rest) last v (subst (λ ts. AddsEach Adds ts x.0 (suc rest) last v) (sym (drop-cons texts at text lt)) from)),
      )

  pub ends_refused : (at number : ℕ) (text : Text) (before now new : Held) → at < length texts → number ≢ 0
      → ((w : W) → now ≡ To w → (v : W) × (new ≡ To v) × Adds (get_or texts at text) w number v) → IsUnderWay To Adds texts at before now
      → (w : W) → before ≡ To w → (v : W) × (new ≡ To v) × AddsEach Adds texts w at number v
  unfolding AddsEach
  ends_refused at number text before now new lt some adds going w e =
      let x = going w e in
      let y = adds x.0 x.1 in
      let count : at + 0 ≡ at = omega arith in
      let from : AddsEach Adds (get_or texts at text ∷ drop (suc at) texts) x.0 0 number y.0 = inl (refl, some, y.2) in (
        y.0,
        y.1,
        as_many w (at + 0) at number y.0 count
            (x.2 0 number y.0 (subst (λ ts. AddsEach Adds ts x.0 0 number y.0) (sym (drop-cons texts at text lt)) from)),
      )

  none_left : (ts : List Text) → drop (length ts) ts ≡ []
  none_left [] = refl
  none_left (t ∷ ts) = none_left ts

  pub ends : (at : ℕ) (before now : Held) → at ≡ length texts → IsUnderWay To Adds texts at before now
      → (w : W) → before ≡ To w → (v : W) × (now ≡ To v) × AddsEach Adds texts w (length texts) 0 v
  unfolding AddsEach
  ends at before now all going w e =
      let x = going w e in
      let count : at + 0 ≡ length texts = omega (arith, all) in
      let none : AddsEach Adds [] x.0 0 0 x.0 = (refl, refl, refl) in
      let over : drop at texts ≡ [] = ap (λ n. drop n texts) all ∙ none_left texts in
      (x.0, x.1, as_many w (at + 0) (length texts) 0 x.0 count (x.2 0 0 x.0 (subst (λ ts. AddsEach Adds ts x.0 0 0 x.0) (sym over) none)))
