-- Sets of numbers and maps by terms, before and after a change.
use Rattle.std.proofs.Common.{◌≡◌, ℕ, ◌≤◌, ◌==◌, Result, Ok, Err, OnOk, OnErr, is_some, is_err, eqb, nat_lt, nat_eq, Bool, true, false, cond, not}
use Rattle.std.proofs.Common.{◌&&◌, ◌||◌, bytes_eq, Option, None, Some, List, [], ◌∷◌, length, refl, sym, ap, ◌∙◌, subst, arith, inl, inr, ⊎_elim}
use Rattle.std.specs.Ordering.{is_eq, nat_cmp}
use Rattle.std.specs.BTreeMap.{is_at}
use Rattle.std.specs.BTreeSet.{BTreeSet, contains}
use Rattle.std.specs.BTreeSet as sorted
use Rattle.std.specs.HashMap.{HashMap}
use Rattle.std.specs.HashMap as hash
use Rattle.std.specs.Bool.{Decides}
use Rattle.std.specs.List.{list_any, Contains, dedup}
use Rattle.std.specs.Map.{lookup, IsKeyTest, AreApart, KeepsOthers}
use Rattle.std.specs.declared.vec.Vec.{Vec}
use Rattle.std.proofs.lemmas.Bool.{cases_Bool, cases_eq, cases_order, lt-ltb, le-ltb, eq-eqb, ne_eqb, cond-true, cond-false}
use Rattle.std.proofs.lemmas.Bool.Decides.{same_from_decides}
use Rattle.std.proofs.lemmas.List.{nil_from_length}
use Rattle.std.proofs.lemmas.Cmp.{nat_eq_equiv, nat_list_eq_equiv}
use Rattle.std.proofs.lemmas.List.Kept.{Contains-from_dedup, Contains-dedup_nat}
use Rattle.std.proofs.lemmas.Map.Views.{Contains-from_any, list_any-from_Contains, exact_unsigned_eq}
use Rattle.std.proofs.lemmas.Slice.Eq.{bytes_eq-Decides}
use Rattle.eb_watch.specs.Index.{has_number, leads}

-- ---- tests

pub and_true : (b : Bool) → (b && true) ≡ b
and_true true = refl
and_true false = refl

pub and_none : (b : Bool) → (b && false) ≡ false
and_none true = refl
and_none false = refl

pub or_none : (b : Bool) → (b || false) ≡ b
or_none true = refl
or_none false = refl

pub or_turn : (a b c : Bool) → (a || (b || c)) ≡ (b || (a || c))
or_turn true true c = refl
or_turn true false c = refl
or_turn false b c = refl

-- ---- numbers

-- numbers are equal in either order
pub flip : (a b : ℕ) → (a == b) ≡ (b == a)
flip a b = elim (cases_eq a b) [
  | inl e ↦ eq-eqb a b e ∙ sym (eq-eqb b a (sym e))
  | inr ne ↦ ne_eqb a b ne ∙ sym (ne_eqb b a (λ e. ne (sym e)))
]

-- a comparison is equal exactly where the numbers are
pub same_number : (a b : ℕ) → is_eq (nat_cmp a b) ≡ (a == b)
same_number a b = elim (cases_order a b) [
  | inl e ↦ let l : nat_lt a b ≡ false = le-ltb a b (omega arith) in let s : (a == b) ≡ true = eq-eqb a b e in rw (l, s) refl
  | inr o ↦ elim o [
    | inl lt ↦ let l : nat_lt a b ≡ true = lt-ltb a b lt in let s : (a == b) ≡ false = ne_eqb a b (λ e. absurd (omega arith)) in rw (l, s) refl
    | inr gt ↦ let l : nat_lt a b ≡ false = le-ltb a b (omega arith) in let s : (a == b) ≡ false = ne_eqb a b (λ e. absurd (omega arith)) in rw (l, s) refl
  ]
]

-- a look-up in a set is one in a list
pub same_numbers : (q : ℕ) (ks : List ℕ) → list_any (is_at (nat_cmp q)) ks ≡ list_any (nat_eq q) ks
same_numbers q [] = refl
same_numbers q (k ∷ ks) = (λ i. same_number q k i || same_numbers q ks i)

cond_or : (b c : Bool) → cond b true c ≡ (b || c)
cond_or true c = refl
cond_or false c = refl

cond_and : (b c : Bool) → cond b false c ≡ (c && not b)
cond_and true c = sym (and_none c)
cond_and false c = sym (and_true c)

-- a set of numbers after one was put in
pub set_put : (s n : BTreeSet ℕ) (k : ℕ) → sorted.UpdatesBy nat_cmp (nat_cmp k) s n true → (q : ℕ) → contains nat_cmp n q ≡ ((q == k) || contains nat_cmp s q)
set_put s n k h q = h.0 q ∙ ap (λ (t : Bool). cond t true (contains nat_cmp s q)) (same_number k q ∙ flip k q) ∙ cond_or (q == k) (contains nat_cmp s q)

-- and after one was taken out
pub set_take : (s n : BTreeSet ℕ) (k : ℕ) → sorted.UpdatesBy nat_cmp (nat_cmp k) s n false → (q : ℕ) → contains nat_cmp n q ≡ (contains nat_cmp s q && not (q == k))
set_take s n k h q = h.0 q ∙ ap (λ (t : Bool). cond t false (contains nat_cmp s q)) (same_number k q ∙ flip k q) ∙ cond_and (q == k) (contains nat_cmp s q)

-- and where it stayed
pub set_same : (s n : BTreeSet ℕ) → n.keys ≡ s.keys → (q : ℕ) → contains nat_cmp n q ≡ contains nat_cmp s q
set_same s n e q = ap (λ (ks : List ℕ). list_any (is_at (nat_cmp q)) ks) e

module _ {K X : Type 0} (eq : K → K → Bool) (test : K → Bool) (old new : List (K × X)) where
  other_entries : KeepsOthers eq test old new → (other : K → Bool) → IsKeyTest eq other → AreApart test other → lookup other new ≡ lookup other old
  unfolding KeepsOthers
  other_entries h = h

apart : (bs cs ks : List ℕ) → bytes_eq bs cs ≡ false → bytes_eq bs ks ≡ true → bytes_eq cs ks ≡ false
apart bs cs ks n y = nat_list_eq_equiv.symm cs ks ∙ sym (nat_list_eq_equiv.congr bs ks cs y) ∙ n

-- a map by terms after a change at one of them
pub map_after : {Z X S : Type 0} (bs : List ℕ) (m n : HashMap (Vec ℕ Z) X S) (w : Option X) → hash.UpdatesBy (λ x y. bytes_eq x.items y.items) (λ k. bytes_eq bs k.items) m n w
    → (cs : List ℕ) → hash.get_by (λ k. bytes_eq cs k.items) n ≡ cond (bytes_eq cs bs) w (hash.get_by (λ k. bytes_eq cs k.items) m)
map_after {Z} {X} {S} bs m n w h cs =
    let turned : bytes_eq cs bs ≡ bytes_eq bs cs = nat_list_eq_equiv.symm cs bs in
    ⊎_elim
    (λ y. let e : cs ≡ bs = (bytes_eq-Decides cs bs).0 y in
    subst (λ (l : List ℕ). hash.get_by (λ k. bytes_eq l k.items) n ≡ w) (sym e) h.1 ∙ sym (cond-true (bytes_eq cs bs) w (hash.get_by (λ k. bytes_eq cs k.items) m) y))
    (λ ne. other_entries (λ x y. bytes_eq x.items y.items) (λ k. bytes_eq bs k.items) m.entries n.entries h.3 (λ k. bytes_eq cs k.items)
    (λ x y. nat_list_eq_equiv.congr cs x.items y.items) (λ k. apart bs cs k.items (sym turned ∙ ne)) ∙ sym (cond-false (bytes_eq cs bs) w (hash.get_by (λ k. bytes_eq cs k.items) m) ne))
    (cases_Bool (bytes_eq cs bs))

-- where a map by terms leads after a change of one term's set
pub leads_after : {Z S : Type 0} (bs : List ℕ) (m n : HashMap (Vec ℕ Z) (BTreeSet ℕ) S) (w : Option (BTreeSet ℕ)) → hash.UpdatesBy (λ x y. bytes_eq x.items y.items) (λ k. bytes_eq bs k.items) m n w
    → (t : List ℕ) (k : ℕ) → leads n t k ≡ cond (bytes_eq t bs) (has_number w k) (leads m t k)
leads_after bs m n w h t k = elim (cases_Bool (bytes_eq t bs)) [
  | inl y ↦
      ap (λ (o : Option (BTreeSet ℕ)). has_number o k) (map_after bs m n w h t ∙ cond-true (bytes_eq t bs) w (hash.get_by (λ k. bytes_eq t k.items) m) y)
      ∙ sym (cond-true (bytes_eq t bs) (has_number w k) (leads m t k) y)
  | inr o ↦
      ap (λ (o : Option (BTreeSet ℕ)). has_number o k) (map_after bs m n w h t ∙ cond-false (bytes_eq t bs) w (hash.get_by (λ k. bytes_eq t k.items) m) o)
      ∙ sym (cond-false (bytes_eq t bs) (has_number w k) (leads m t k) o)
]

-- the terms are the same where they compare so
pub leads_at : {Z S : Type 0} (m : HashMap (Vec ℕ Z) (BTreeSet ℕ) S) (t bs : List ℕ) (k : ℕ) → bytes_eq t bs ≡ true → leads m t k ≡ leads m bs k
leads_at m t bs k y = let e : t ≡ bs = (bytes_eq-Decides t bs).0 y in ap (λ (l : List ℕ). leads m l k) e

module _ {Z S : Type 0} (bs : List ℕ) (m n : HashMap (Vec ℕ Z) (BTreeSet ℕ) S) (w : Option (BTreeSet ℕ)) (up : hash.UpdatesBy (λ x y. bytes_eq x.items y.items) (λ k. bytes_eq bs k.items) m n w) where
  -- a number was put into the set of a term
  pub put_one : (number : ℕ) → ((q : ℕ) → has_number w q ≡ ((q == number) || leads m bs q)) → (t : List ℕ) (k : ℕ) → leads n t k ≡ (((k == number) && bytes_eq t bs) || leads m t k)
  put_one number has t k = elim (cases_Bool (bytes_eq t bs)) [
    | inl y ↦ leads_after bs m n w up t k ∙ cond-true (bytes_eq t bs) (has_number w k) (leads m t k) y ∙ has k ∙ (rw (leads_at m t bs k y, y, and_true) refl)
    | inr o ↦ leads_after bs m n w up t k ∙ cond-false (bytes_eq t bs) (has_number w k) (leads m t k) o ∙ (rw (o, and_none) refl)
  ]

  -- the set of a term stayed
  pub same_one : ((q : ℕ) → has_number w q ≡ leads m bs q) → (t : List ℕ) (k : ℕ) → leads n t k ≡ leads m t k
  same_one has t k = elim (cases_Bool (bytes_eq t bs)) [
    | inl y ↦ leads_after bs m n w up t k ∙ cond-true (bytes_eq t bs) (has_number w k) (leads m t k) y ∙ has k ∙ sym (leads_at m t bs k y)
    | inr o ↦ leads_after bs m n w up t k ∙ cond-false (bytes_eq t bs) (has_number w k) (leads m t k) o
  ]

  -- a number was taken out of the set of a term
  pub take_one : (number : ℕ) → ((q : ℕ) → has_number w q ≡ (leads m bs q && not (q == number))) → (t : List ℕ) (k : ℕ) → leads n t k ≡ (leads m t k && not ((k == number) && bytes_eq t bs))
  take_one number has t k = elim (cases_Bool (bytes_eq t bs)) [
    | inl y ↦ leads_after bs m n w up t k ∙ cond-true (bytes_eq t bs) (has_number w k) (leads m t k) y ∙ has k ∙ (rw (leads_at m t bs k y, y, and_true) refl)
    | inr o ↦ leads_after bs m n w up t k ∙ cond-false (bytes_eq t bs) (has_number w k) (leads m t k) o ∙ (rw (o, and_none, and_true) refl)
  ]

-- the same, where the term has a set
module _ {Z S : Type 0} (bs : List ℕ) (m n : HashMap (Vec ℕ Z) (BTreeSet ℕ) S) (s s' : BTreeSet ℕ) (number : ℕ) (found : Some s ≡ hash.get_by (λ k. bytes_eq bs k.items) m) where
  had : (q : ℕ) → contains nat_cmp s q ≡ leads m bs q
  had q = ap (λ (o : Option (BTreeSet ℕ)). has_number o q) found

  pub put_found : hash.UpdatesBy (λ x y. bytes_eq x.items y.items) (λ k. bytes_eq bs k.items) m n (Some s') → sorted.UpdatesBy nat_cmp (nat_cmp number) s s' true
      → (t : List ℕ) (k : ℕ) → leads n t k ≡ (((k == number) && bytes_eq t bs) || leads m t k)
  put_found up put = put_one bs m n (Some s') up number (λ q. set_put s s' number put q ∙ ap (λ (b : Bool). (q == number) || b) (had q))

  pub same_found : hash.UpdatesBy (λ x y. bytes_eq x.items y.items) (λ k. bytes_eq bs k.items) m n (Some s') → s'.keys ≡ s.keys
      → (t : List ℕ) (k : ℕ) → leads n t k ≡ leads m t k
  same_found up e = same_one bs m n (Some s') up (λ q. set_same s s' e q ∙ had q)

  pub take_found : hash.UpdatesBy (λ x y. bytes_eq x.items y.items) (λ k. bytes_eq bs k.items) m n (Some s') → sorted.UpdatesBy nat_cmp (nat_cmp number) s s' false
      → (t : List ℕ) (k : ℕ) → leads n t k ≡ (leads m t k && not ((k == number) && bytes_eq t bs))
  take_found up take = take_one bs m n (Some s') up number (λ q. set_take s s' number take q ∙ ap (λ (b : Bool). b && not (q == number)) (had q))

  -- a set that became empty was removed too
  pub take_last : (l : HashMap (Vec ℕ Z) (BTreeSet ℕ) S) → hash.UpdatesBy (λ x y. bytes_eq x.items y.items) (λ k. bytes_eq bs k.items) m n (Some s')
      → hash.UpdatesBy (λ x y. bytes_eq x.items y.items) (λ k. bytes_eq bs k.items) n l None → sorted.UpdatesBy nat_cmp (nat_cmp number) s s' false → length s'.keys ≡ 0
      → (t : List ℕ) (k : ℕ) → leads l t k ≡ (leads m t k && not ((k == number) && bytes_eq t bs))
  take_last l up gone take none t k =
      let empty : s'.keys ≡ [] = nil_from_length s'.keys none in
      same_one bs n l None gone (λ q. sym (ap (λ (o : Option (BTreeSet ℕ)). has_number o q) up.1 ∙ ap (λ (ks : List ℕ). list_any (is_at (nat_cmp q)) ks) empty)) t k ∙ take_found up take t k

-- the same, where the term has none
pub put_new : {Z S : Type 0} (bs : List ℕ) (key : Vec ℕ Z) (m m' n : HashMap (Vec ℕ Z) (BTreeSet ℕ) S) (s s' : BTreeSet ℕ) (number : ℕ)
    → key.items ≡ bs → None ≡ hash.get_by (λ k. bytes_eq bs k.items) m → m' ≡ m → s.keys ≡ []
    → hash.UpdatesBy (λ x y. bytes_eq x.items y.items) (λ k. bytes_eq key.items k.items) m' n (Some s') → sorted.UpdatesBy nat_cmp (nat_cmp number) s s' true
    → (t : List ℕ) (k : ℕ) → leads n t k ≡ (((k == number) && bytes_eq t bs) || leads m t k)
put_new {Z} {S} bs key m m' n s s' number same none same_map empty up put =
    let at_key : hash.UpdatesBy (λ x y. bytes_eq x.items y.items) (λ k. bytes_eq bs k.items) m' n (Some s') =
    subst (λ (l : List ℕ). hash.UpdatesBy (λ (x y : Vec ℕ Z). bytes_eq x.items y.items) (λ (k : Vec ℕ Z). bytes_eq l k.items) m' n (Some s')) same up in
    let all : hash.UpdatesBy (λ x y. bytes_eq x.items y.items) (λ k. bytes_eq bs k.items) m n (Some s') =
    subst (λ (l : HashMap (Vec ℕ Z) (BTreeSet ℕ) S). hash.UpdatesBy (λ (x y : Vec ℕ Z). bytes_eq x.items y.items) (λ (k : Vec ℕ Z). bytes_eq bs k.items) l n (Some s')) same_map at_key in
    put_one bs m n (Some s') all number
    (λ q. set_put s s' number put q ∙ ap (λ (b : Bool). (q == number) || b) (ap (λ (ks : List ℕ). list_any (is_at (nat_cmp q)) ks) empty ∙ ap (λ (o : Option (BTreeSet ℕ)). has_number o q) none))

-- ---- lists of numbers

pub member : (xs : List ℕ) (n : ℕ) → Decides (list_any (nat_eq n) xs) (Contains xs n)
member xs n = (Contains-from_any exact_unsigned_eq n xs, list_any-from_Contains nat_eq_equiv n xs)

-- a list has the same numbers without repeats
pub kept : (xs : List ℕ) (n : ℕ) → list_any (nat_eq n) (dedup eqb xs) ≡ list_any (nat_eq n) xs
kept xs n = same_from_decides {P = Contains xs n} _ _
    (λ h. Contains-from_dedup eqb xs n ((member (dedup eqb xs) n).0 h), λ h. (member (dedup eqb xs) n).1 (Contains-dedup_nat xs n h))
    (member xs n)

-- ---- answers

-- what holds holds at an Err
pub on_err : {T E P : Type 0} (r : Result T E) → P → OnErr r P
on_err (Ok x) p = tt
on_err (Err e) p = p

pub at_ok : {T E P : Type 0} (r : Result T E) → is_err r ≡ false → OnOk r P → P
at_ok (Ok x) h p = p
at_ok (Err e) h p = absurd cc

pub at_err : {T E P : Type 0} (r : Result T E) → is_err r ≡ true → OnErr r P → P
at_err (Ok x) h p = absurd cc
at_err (Err e) h p = p

pub none_from : {X : Type 0} (o : Option X) → is_some o ≡ false → o ≡ None
none_from None h = refl
none_from (Some x) h = absurd cc

pub one_at_most : (b : Bool) → cond b 0 1 ≤ 1
one_at_most true = omega arith
one_at_most false = omega arith
