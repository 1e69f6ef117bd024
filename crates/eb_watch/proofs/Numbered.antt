-- The terms of a document by number.
use Rattle.std.proofs.Common.{◌≡◌, ℕ, zero, suc, ◌+◌, ◌<◌, Bool, true, false, List, [], ◌∷◌}
use Rattle.std.proofs.Common.{◌++◌, length, get_or, slice_get, Option, Some, None, is_some, bytes_eq, refl, sym, ap, ◌∙◌, arith, subst, inl, inr}
use Rattle.std.specs.HashMap.{HashMap}
use Rattle.std.specs.HashMap as hash
use Rattle.std.specs.List.{list_any, Contains}
use Rattle.std.specs.Prelude.{unwrap_or}
use Rattle.std.specs.declared.vec.Vec.{Vec}
use Rattle.std.proofs.lemmas.Bool.{cases_Bool, cases_order, cond-true, cond-false}
use Rattle.std.proofs.lemmas.Bool.Decides.{same_from_decides}
use Rattle.std.proofs.lemmas.Cmp.{nat_list_eq_equiv}
use Rattle.std.proofs.lemmas.Map.Views.{list_any-from_Contains, Contains-from_any}
use Rattle.std.proofs.lemmas.List.{get_or_default}
use Rattle.std.proofs.lemmas.Option.{slice_get_within, get_or_from_slice_get, slice_get-get_or}
use Rattle.std.proofs.lemmas.Slice.Eq.{bytes_eq-Decides}
use Rattle.eb_watch.specs.Message.{number_of, Numbers, AreNumberedTo}
use Rattle.eb_watch.proofs.Numbers.{map_after}
use Rattle.eb_watch.proofs.Standing.{ArePlaces}

some_inj : {A : Type 0} (x y : A) → Some x ≡ Some y → x ≡ y
some_inj x y e = cc

-- a term has a number already
pub number_found : {Z S : Type 0} (m : HashMap (Vec ℕ Z) ℕ S) (term : List ℕ) (at n : ℕ) → number_of m term ≡ Some n → Numbers m m term at n
number_found m term at n e = record { is = sym (ap (λ o. unwrap_or o at) e); here = e; others = λ t ne. refl }

-- and gets one
pub number_new : {Z S : Type 0} (m n : HashMap (Vec ℕ Z) ℕ S) (term : List ℕ) (at : ℕ) → number_of m term ≡ None
    → hash.UpdatesBy (λ x y. bytes_eq x.items y.items) (λ k. bytes_eq term k.items) m n (Some at) → Numbers m n term at at
number_new m n term at none up = record {
  is = sym (ap (λ o. unwrap_or o at) none);
  here = map_after term m n (Some at) up term ∙ cond-true (bytes_eq term term) (Some at) (number_of m term) ((bytes_eq-Decides term term).1 refl);
  others = λ t ne. map_after term m n (Some at) up t ∙ cond-false (bytes_eq t term) (Some at) (number_of m t) ne;
}

-- one more term
pub one_more : {Z S : Type 0} (m n : HashMap (Vec ℕ Z) ℕ S) (numbers more : List ℕ) (terms : List (List ℕ)) (at number : ℕ) (term : List ℕ)
    → AreNumberedTo m numbers terms at → get_or terms at [] ≡ term → Numbers m n term at number → more ≡ numbers ++ number ∷ [] → AreNumberedTo n more terms (at + 1)
one_more m n numbers more terms at number term told is put e = record {
  long = ap length e ∙ long_push numbers number ∙ ap (λ (k : ℕ). k + 1) told.long;
  each = λ i l. elim (cases_order i at) [
    | inl s ↦ here i s
    | inr o ↦ elim o [
      | inl lt ↦ before i lt
      | inr gt ↦ absurd (omega (arith, gt, l))
    ]
  ];
  stands = λ t k h. elim (cases_Bool (bytes_eq t term)) [
    | inl y ↦ let same : t ≡ term = (bytes_eq-Decides t term).0 y in at_term t k same h
    | inr ne ↦ let old = told.stands t k (sym (put.others t ne) ∙ h) in (omega (arith, old.0), old.1)
  ];
}
  where
    long_push : (xs : List ℕ) (x : ℕ) → length (xs ++ x ∷ []) ≡ length xs + 1
    long_push [] x = refl
    long_push (y ∷ ys) x = let h = long_push ys x in omega (arith, h)

    push_here : (xs : List ℕ) (x : ℕ) → get_or (xs ++ x ∷ []) (length xs) 0 ≡ x
    push_here [] x = refl
    push_here (y ∷ ys) x = push_here ys x

    push_before : (xs : List ℕ) (x i : ℕ) → i < length xs → get_or (xs ++ x ∷ []) i 0 ≡ get_or xs i 0
    push_before [] x i h = absurd (omega (arith, h))
    push_before (y ∷ ys) x zero h = refl
    push_before (y ∷ ys) x (suc i) h = push_before ys x i (omega (arith, h))

    last : get_or more at 0 ≡ number
    last = ap (λ (xs : List ℕ). get_or xs at 0) e ∙ subst (λ (k : ℕ). get_or (numbers ++ number ∷ []) k 0 ≡ number) told.long (push_here numbers number)

    here : (i : ℕ) → i ≡ at → number_of n (get_or terms i []) ≡ Some (get_or more i 0)
    here i s = ap (λ (k : ℕ). number_of n (get_or terms k [])) s ∙ ap (number_of n) is ∙ put.here ∙ ap Some (sym last) ∙ ap (λ (k : ℕ). Some (get_or more k 0)) (sym s)

    -- the number of an earlier place
    kept : (i : ℕ) → i < at → (b : Bool) → bytes_eq (get_or terms i []) term ≡ b → number_of n (get_or terms i []) ≡ Some (get_or numbers i 0)
    kept i l true y =
        let same : get_or terms i [] ≡ term = (bytes_eq-Decides (get_or terms i []) term).0 y in
        let had : number_of m term ≡ Some (get_or numbers i 0) = ap (number_of m) (sym same) ∙ told.each i l in
        ap (number_of n) same ∙ put.here ∙ ap Some (put.is ∙ ap (λ o. unwrap_or o at) had)
    kept i l false ne = put.others (get_or terms i []) ne ∙ told.each i l

    before : (i : ℕ) → i < at → number_of n (get_or terms i []) ≡ Some (get_or more i 0)
    before i l = kept i l (bytes_eq (get_or terms i []) term) refl
        ∙ ap Some (sym (ap (λ (xs : List ℕ). get_or xs i 0) e ∙ push_before numbers number i (omega (arith, l, told.long))))

    from : (o : Option ℕ) → number_of m term ≡ o → number ≡ unwrap_or o at → (number < at + 1) × (get_or terms number [] ≡ term)
    from None none k = let s : number ≡ at = k in (omega (arith, s), ap (λ (j : ℕ). get_or terms j []) s ∙ is)
    from (Some j) some k = let old = told.stands term j some in let s : number ≡ j = k in (omega (arith, s, old.0), ap (λ (j : ℕ). get_or terms j []) s ∙ old.1)

    at_term : (t : List ℕ) (k : ℕ) → t ≡ term → number_of n t ≡ Some k → (k < at + 1) × (get_or terms k [] ≡ t)
    at_term t k same h =
        let e2 : number ≡ k = some_inj number k (sym put.here ∙ ap (number_of n) (sym same) ∙ h) in
        let f = from (number_of m term) refl put.is in
        (omega (arith, e2, f.0), ap (λ (j : ℕ). get_or terms j []) (sym e2) ∙ f.1 ∙ sym same)

module _ {Z S : Type 0} (m : HashMap (Vec ℕ Z) ℕ S) (numbers : List ℕ) (terms : List (List ℕ)) (told : AreNumberedTo m numbers terms (length terms)) where
  -- the places that have the number of a term are those where it occurs
  pub are_places : (t : List ℕ) (n : ℕ) → number_of m t ≡ Some n → ArePlaces numbers terms n t
  are_places t n e k h = (
    λ has.
        let mine : get_or terms n [] ≡ get_or terms k [] = (told.stands (get_or terms k []) n (told.each k h ∙ ap Some has)).1 in
        slice_get-get_or terms k [] h ∙ ap Some (sym mine ∙ (told.stands t n e).1),
    λ is.
        let own : get_or terms k [] ≡ t = get_or_from_slice_get terms k t [] is in
        some_inj (get_or numbers k 0) n (sym (told.each k h) ∙ ap (number_of m) own ∙ e),
  )

  -- a term without a number occurs nowhere
  pub nowhere : (t : List ℕ) → number_of m t ≡ None → (k : ℕ) → slice_get terms k ≡ Some t → ⊥
  nowhere t none k is =
      let own : get_or terms k [] ≡ t = get_or_from_slice_get terms k t [] is in
      let has : number_of m t ≡ Some (get_or numbers k 0) = ap (number_of m) (sym own) ∙ told.each k (slice_get_within terms k t is) in
      let no : ⊥ = cc (none, has) in no

  -- a term has a number exactly where it is one of them
  pub has_number : (t : List ℕ) → is_some (number_of m t) ≡ list_any (bytes_eq t) terms
  has_number t = same_from_decides {P = Contains terms t} _ _ (λ h. there (number_of m t) refl h, λ c. got (number_of m t) refl c)
      (λ h. Contains-from_any (λ x y. (bytes_eq-Decides x y).0) t terms h, λ c. list_any-from_Contains nat_list_eq_equiv t terms c)
    where
      there : (o : Option ℕ) → number_of m t ≡ o → is_some o ≡ true → Contains terms t
      there None e h = absurd cc
      there (Some n) e h = let s = told.stands t n e in (n, s.0, get_or_default terms n t [] s.0 ∙ s.1)

      got : (o : Option ℕ) → number_of m t ≡ o → Contains terms t → is_some o ≡ true
      got None e c = let own : number_of m t ≡ Some (get_or numbers c.0 0) = ap (number_of m) (sym (get_or_default terms c.0 [] t c.1 ∙ c.2)) ∙ told.each c.0 c.1 in
          let no : ⊥ = cc (own, e) in absurd no
      got (Some n) e c = refl
