-- Lists that are collected term by term.
use Rattle.std.proofs.Common.{◌≡◌, ℕ, zero, suc, ◌+◌, ◌<◌, nat_eq, Bool, true, false, ◌&&◌, ◌||◌, Option, None, Some}
use Rattle.std.proofs.Common.{bytes_eq, List, [], ◌∷◌, ◌++◌, length, take, get_or, refl, sym, ap, ◌∙◌, inl, inr}
use Rattle.std.specs.List.{list_any}
use Rattle.std.specs.BTreeSet.{BTreeSet}
use Rattle.std.specs.HashMap.{HashMap, get_by}
use Rattle.std.specs.declared.vec.Vec.{Vec}
use Rattle.std.proofs.lemmas.Bool.{false≢true, and_cases, or_cases, or_left, or_right, or_parts, or_from}
use Rattle.std.proofs.lemmas.List.{take_more}
use Rattle.std.proofs.lemmas.Slice.Eq.{bytes_eq-Decides}
use Rattle.eb_watch.specs.Index.{has_number, leads}
use Rattle.eb_watch.proofs.Numbers.{and_none, or_none, same_numbers}

any_append : {X : Type 0} (p : X → Bool) (xs ys : List X) → list_any p (xs ++ ys) ≡ (list_any p xs || list_any p ys)
any_append p [] ys = refl
any_append p (x ∷ xs) ys = ap (λ (b : Bool). p x || b) (any_append p xs ys) ∙ or_group (p x) (list_any p xs) (list_any p ys)
  where
    or_group : (a b c : Bool) → (a || (b || c)) ≡ ((a || b) || c)
    or_group true b c = refl
    or_group false b c = refl

none_before : {X : Type 0} (p : X → Bool) (xs : List X) (i : ℕ) → list_any p xs ≡ false → list_any p (take i xs) ≡ false
none_before p xs zero h = refl
none_before p [] (suc i) h = refl
none_before p (x ∷ xs) (suc i) h = let parts = or_parts (p x) (list_any p xs) h in or_from _ _ parts.0 (none_before p xs i parts.1)

-- what no element passes, no earlier one passes
pub not_yet : {X : Type 0} (b x : Bool) (p : X → Bool) (xs : List X) (i : ℕ) → (b && list_any p xs) ≡ false → ((b && list_any p (take i xs)) || x) ≡ x
not_yet b x p xs i h = elim (and_cases b (list_any p xs) h) [
  | inl e ↦ rw e refl
  | inr e ↦ let f : list_any p (take i xs) ≡ false = none_before p xs i e in rw (f, and_none) refl
]

module _ {X : Type 0} (f : X → Bool) (xs : List X) (i : ℕ) (x : X) (within : i < length xs) (at : x ≡ get_or xs i x) where
  -- one more element
  one_more : list_any f (take (i + 1) xs) ≡ (list_any f (take i xs) || f x)
  one_more = ap (list_any f) (take_more xs i x within) ∙ any_append f (take i xs) (get_or xs i x ∷ []) ∙ ap (λ (b : Bool). list_any f (take i xs) || b) (or_none (f (get_or xs i x)) ∙ ap f (sym at))

  module _ (n : ℕ) (a : Bool) (old new : List ℕ) (before : list_any (nat_eq n) old ≡ (a || list_any f (take i xs))) where
    -- the list grew by what the element leads to
    pub put_more : (ks : List ℕ) → new ≡ old ++ ks → list_any (nat_eq n) ks ≡ f x → list_any (nat_eq n) new ≡ (a || list_any f (take (i + 1) xs))
    put_more ks grew those =
        ap (list_any (nat_eq n)) grew ∙ any_append (nat_eq n) old ks ∙ (λ j. before j || those j) ∙ group a (list_any f (take i xs)) (f x) ∙ ap (λ (b : Bool). a || b) (sym one_more)
      where
        group : (a b c : Bool) → ((a || b) || c) ≡ (a || (b || c))
        group true b c = refl
        group false b c = refl

    -- the list stays, since it has what the element leads to
    pub skip_more : new ≡ old → (f x ≡ true → list_any f (take i xs) ≡ true) → list_any (nat_eq n) new ≡ (a || list_any f (take (i + 1) xs))
    skip_more stayed stands =
        ap (list_any (nat_eq n)) stayed ∙ before ∙ ap (λ (b : Bool). a || b) (covered (list_any f (take i xs)) (f x) stands ∙ sym one_more)
      where
        covered : (b c : Bool) → (c ≡ true → b ≡ true) → b ≡ (b || c)
        covered true c h = refl
        covered false true h = h refl
        covered false false h = refl

-- an element that is like one of the list passes with it
pub any_alike : (f : List ℕ → Bool) (x : List ℕ) (ys : List (List ℕ)) → list_any (λ y. bytes_eq y x) ys ≡ true → f x ≡ true → list_any f ys ≡ true
any_alike f x [] h t = h
any_alike f x (y ∷ ys) h t = elim (or_cases (bytes_eq y x) (list_any (λ y. bytes_eq y x) ys) h) [
  | inl here ↦ or_left _ _ (ap f ((bytes_eq-Decides y x).0 here) ∙ t)
  | inr there ↦ or_right (f y) _ (any_alike f x ys there t)
]

module _ {Z S : Type 0} (m : HashMap (Vec ℕ Z) (BTreeSet ℕ) S) (bs t : List ℕ) (same : bs ≡ t) (n : ℕ) where
  -- a term without a set leads nowhere
  pub led_none : None ≡ get_by (λ k. bytes_eq bs k.items) m → leads m t n ≡ true → ⊥
  led_none e h = false≢true (ap (λ (o : Option (BTreeSet ℕ)). has_number o n) e ∙ ap (λ (l : List ℕ). leads m l n) same ∙ h)

  -- and one with a set to its numbers
  pub led_some : (s : BTreeSet ℕ) → Some s ≡ get_by (λ k. bytes_eq bs k.items) m → list_any (nat_eq n) s.keys ≡ leads m t n
  led_some s e = sym (same_numbers n s.keys) ∙ ap (λ (o : Option (BTreeSet ℕ)). has_number o n) e ∙ ap (λ (l : List ℕ). leads m l n) same
