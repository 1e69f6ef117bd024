-- What the rules say of numbers and pairs.
use Rattle.std.proofs.Common.{◌≡◌, ℕ, zero, suc, ◌<◌, ◌≤◌, ◌⊎◌, inl, inr, ⊎_elim, List, [], ◌∷◌, Bool, true, false, cond, ◌==◌, refl, ap, sym, ◌∙◌, subst, arith}
use Rattle.std.specs.Prelude.{All}
use Rattle.std.proofs.lemmas.List.Elements.{All-head, All-tail}
use native.Mathlib.Decide.{ℕ_discrete}
use mathlib.Core.Option.{some, some-injective}
use lib.ListN.{get_elem?}
use Rattle.eb_desk.specs.declared.rule.Pair.{Pair}
use Rattle.eb_desk.specs.declared.rule.Hand.{Hand}
use Rattle.eb_desk.specs.declared.rule.View.{View}
use Rattle.eb_desk.specs.declared.rule.View.TheVariants.{At}
use Rattle.eb_desk.specs.Rule.{hand_of, total, HaveRisingNumbers, IsTaker}
use Rattle.eb_desk.specs.Laws.{times, is_same, stands, JobsAreTakenOnce, JobsAreKnown, AnswersAreKept}

-- above all of them there is none
none_above : (n : ℕ) (ps : List Pair) → All (λ q. n < q.number) ps → times n ps ≡ 0
none_above n [] a = refl
none_above n (p ∷ ps) a = let h = All-head (λ q. n < q.number) p ps a in let t = none_above n ps (All-tail (λ q. n < q.number) p ps a) in grind (arith, h, t)

rising_once : (n : ℕ) (ps : List Pair) → HaveRisingNumbers ps → times n ps ≤ 1
rising_once n [] r = omega arith
rising_once n (p ∷ ps) r = by_number (ℕ_discrete p.number n) (rising_once n ps r.1)
  where
    by_number : Dec (p.number ≡ n) → times n ps ≤ 1 → times n (p ∷ ps) ≤ 1
    by_number (yes e) t = let z = subst (λ (m : ℕ). times m ps ≡ 0) e (none_above p.number ps r.0) in grind (arith, z, e)
    by_number (no d) t = grind (arith, t, d)

module _ {D : Type 0} where
  -- only the pass at the clerk's seat has put pairs
  total_one : (f : Hand → ℕ) (views : List (View D)) (at : ℕ) → ((by : ℕ) (v : View D) → get_elem? views by ≡ some v → (by ≡ at) ⊎ (f (hand_of v) ≡ 0)) → (m : ℕ)
      → ((by : ℕ) (v : View D) → get_elem? views by ≡ some v → f (hand_of v) ≤ m) → total f views ≤ m
  total_one f [] at z m b = omega arith
  total_one f (x ∷ xs) zero z m b =
      let t = rest_zero xs (λ by v e. ⊎_elim (λ (s : suc by ≡ zero). absurd (omega (arith, s))) (λ (k : f (hand_of v) ≡ 0). k) (z (suc by) v e)) in
      let h = b 0 x refl in omega (arith, t, h)
    where
      rest_zero : (ys : List (View D)) → ((by : ℕ) (v : View D) → get_elem? ys by ≡ some v → f (hand_of v) ≡ 0) → total f ys ≡ 0
      rest_zero [] k = refl
      rest_zero (y ∷ ys) k = let h = k 0 y refl in let t = rest_zero ys (λ by v e. k (suc by) v e) in omega (arith, h, t)
  total_one f (x ∷ xs) (suc i) z m b =
      let h = ⊎_elim (λ (s : zero ≡ suc i). absurd (omega (arith, s))) (λ (k : f (hand_of x) ≡ 0). k) (z 0 x refl) in
      let t = total_one f xs i (λ by v e. ⊎_elim (λ (s : suc by ≡ suc i). inl (omega (arith, s))) (λ (k : f (hand_of v) ≡ 0). inr k) (z (suc by) v e)) m (λ by v e. b (suc by) v e) in
      omega (arith, h, t)

  -- where one pass alone has some of f, it has all
  total_only : (f : Hand → ℕ) (views : List (View D)) (at : ℕ) (w : View D) → get_elem? views at ≡ some w
      → ((by : ℕ) (v : View D) → get_elem? views by ≡ some v → (by ≡ at) ⊎ (f (hand_of v) ≡ 0)) → total f views ≤ f (hand_of w)
  total_only f views at w here z = total_one f views at z (f (hand_of w)) (λ by v e.
      ⊎_elim
      (λ (s : by ≡ at). let same : v ≡ w = some-injective v w (sym e ∙ (ap (λ (i : ℕ). get_elem? views i) s ∙ here)) in let k = ap (λ (u : View D). f (hand_of u)) same in omega (arith, k))
      (λ (k : f (hand_of v) ≡ 0). omega (arith, k))
      (z by v e))

module _ {J D : Type 0} (pair : J → Pair) (made : D → J → Type 0) where
  -- no number occurs twice among the queue and what was taken
  pub once : JobsAreTakenOnce pair made
  once home items views b n =
      let one = total_one (λ h. times n h.put) views b.clerk
      (λ by v e. let s = b.balanced.seated by v e in by_kind by v s.0 s.1 s.2 s.0.puts refl) 1
      (λ by v e. let s = b.balanced.seated by v e in at_most by v s.0 s.1 s.2 s.0.puts refl) in
      let o = b.balanced.pairs (λ p. cond (p.number == n) 1 0) in
      omega (arith, one, o)
    where
      by_kind : (by : ℕ) (v : View D) (h : Hand) → v ≡ At home h → IsTaker b.clerk by h → (c : Bool) → h.puts ≡ c → (by ≡ b.clerk) ⊎ (times n (hand_of v).put ≡ 0)
      by_kind by v h is kind true c = inl (kind.puts c).0
      by_kind by v h is kind false c = inr (ap (λ (u : View D). times n (hand_of u).put) is ∙ ap (times n) (kind.takes c).0)

      at_most : (by : ℕ) (v : View D) (h : Hand) → v ≡ At home h → IsTaker b.clerk by h → (c : Bool) → h.puts ≡ c → times n (hand_of v).put ≤ 1
      at_most by v h is kind true c = subst (λ (u : View D). times n (hand_of u).put ≤ 1) (sym is) (rising_once n h.put (kind.puts c).1)
      at_most by v h is kind false c = subst (λ (u : View D). times n (hand_of u).put ≤ 1) (sym is) (subst (λ (l : List Pair). times n l ≤ 1) (sym (kind.takes c).0) (omega arith))

  -- each pair in the queue and in what was taken is among those that the clerk put
  pub was_put : JobsAreKnown pair made
  was_put home items views b k here p =
      let all = total_only (λ h. stands p h.put) views b.clerk (At home k) here (λ by v e. let s = b.balanced.seated by v e in by_kind by v s.0 s.1 s.2 s.0.puts refl) in
      let o = b.balanced.pairs (λ q. cond (is_same p q) 1 0) in
      omega (arith, all, o)
    where
      by_kind : (by : ℕ) (v : View D) (h : Hand) → v ≡ At home h → IsTaker b.clerk by h → (c : Bool) → h.puts ≡ c → (by ≡ b.clerk) ⊎ (stands p (hand_of v).put ≡ 0)
      by_kind by v h is kind true c = inl (kind.puts c).0
      by_kind by v h is kind false c = inr (ap (λ (u : View D). stands p (hand_of u).put) is ∙ ap (stands p) (kind.takes c).0)

-- what the workers put is in the queue, or was taken
pub kept : {A D : Type 0} (pair : A → Pair) (made : D → A → Type 0) → AnswersAreKept pair made
kept pair made home items views b p = b.balanced.pairs (λ q. cond (is_same p q) 1 0)
