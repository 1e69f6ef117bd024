-- Watches as lists that rise by their numbers.
use Rattle.std.proofs.Common.{◌≡◌, ℕ, zero, suc, ◌+◌, ◌<◌, ◌==◌, nat_lt, nat_eq, Bool, true, false, not, ◌&&◌, ◌||◌, None}
use Rattle.std.proofs.Common.{Some, is_some, List, [], ◌∷◌, filter, get_or, refl, sym, ap, ◌∙◌, subst, arith, inl, inr}
use Rattle.std.specs.List.{All, list_any}
use Rattle.std.specs.List.Sorted.{IsStrictlyIncreasing}
use Rattle.std.specs.Map.{lookup, keys_of, remove_entry}
use Rattle.std.specs.Ordering.{nat_cmp}
use Rattle.std.specs.BTreeMap.{is_at, insert_entry}
use Rattle.std.specs.BTreeSet.{BTreeSet}
use Rattle.std.proofs.lemmas.Bool.{cases_Bool, cases_order, lt-ltb, le-ltb, eq-eqb, ne_eqb, eqb-true}
use Rattle.std.proofs.lemmas.Cmp.{nat_cmp_total}
use Rattle.std.proofs.lemmas.List.Elements.{All-cons}
use Rattle.std.proofs.lemmas.Map.Keys.{sorted_from_strictly_increasing}
use Rattle.std.proofs.lemmas.Map.Lookups.{btree_set_from_contains, exact_unsigned}
use Rattle.eb_base.specs.Query.{Tree, tree, IsWellFormed}
use Rattle.eb_watch.specs.declared.watch.Watch.{Watch}
use Rattle.eb_watch.specs.Watches.{Watched, numbers_of, is_set, with_watch, without_watch}
use Rattle.eb_watch.specs.Index.{finds}
use Rattle.eb_watch.specs.Held.{watched, AllWellFormed}
use Rattle.eb_watch.proofs.Numbers.{same_number, same_numbers, and_true, and_none, or_none, or_turn}

-- ---- rising

-- each number is above the first
abbrev pub Above : ℕ → List ℕ → Type 0
Above x [] = Unit {0}
Above x (y ∷ ys) = (x < y) × Above x ys

abbrev pub Rises : List ℕ → Type 0
Rises [] = Unit {0}
Rises (x ∷ xs) = Above x xs × Rises xs

above_less : (x y : ℕ) (ys : List ℕ) → x < y → Above y ys → Above x ys
above_less x y [] l a = tt
above_less x y (z ∷ ys) l a = (omega (arith, l, a.0), above_less x y ys l a.1)

pub rises_from : (xs : List ℕ) → IsStrictlyIncreasing xs → Rises xs
rises_from [] h = tt
rises_from (x ∷ []) h = (tt, tt)
rises_from (x ∷ y ∷ ys) h =
    let rest = rises_from (y ∷ ys) (λ k l. let f : get_or (x ∷ y ∷ ys) (suc k) 0 < get_or (x ∷ y ∷ ys) (suc k + 1) 0 = h (suc k) (omega arith) in
    let e : suc k + 1 ≡ suc (k + 1) = omega arith in subst (λ (n : ℕ). get_or (y ∷ ys) k 0 < get_or (x ∷ y ∷ ys) n 0) e f) in
    let first : x < y = h 0 (omega arith) in
    ((first, above_less x y ys first rest.0), rest)

pub increases : (xs : List ℕ) → Rises xs → IsStrictlyIncreasing xs
increases [] r k l = absurd (omega arith)
increases (x ∷ []) r k l = absurd (omega arith)
increases (x ∷ y ∷ ys) r zero l = r.0.0
increases (x ∷ y ∷ ys) r (suc k) l =
    let e : suc (k + 1) ≡ suc k + 1 = omega arith in
    subst (λ (n : ℕ). get_or (y ∷ ys) k 0 < get_or (x ∷ y ∷ ys) n 0) e (increases (y ∷ ys) r.1 k (omega arith))

-- numbers that rise are those that the list has
pub same_rising : (xs ys : List ℕ) → IsStrictlyIncreasing xs → IsStrictlyIncreasing ys → ((n : ℕ) → list_any (nat_eq n) xs ≡ list_any (nat_eq n) ys) → xs ≡ ys
same_rising xs ys r s same =
    let a : BTreeSet ℕ = record { keys = xs } in
    let b : BTreeSet ℕ = record { keys = ys } in
    btree_set_from_contains nat_cmp_total a b (sorted_from_strictly_increasing xs r) (sorted_from_strictly_increasing ys s)
    (λ n. same_numbers n xs ∙ same n ∙ sym (same_numbers n ys)) exact_unsigned

above_filter : (p : Tree → Bool) (x : ℕ) (ws : List Watched) → Above x (numbers_of ws) → Above x (numbers_of (filter (λ w. p w.1) ws))
above_filter p x [] a = tt
above_filter p x (w ∷ ws) a = elim (cases_Bool (p w.1)) [
  | inl y ↦ rw y (a.0, above_filter p x ws a.1)
  | inr n ↦ rw n (above_filter p x ws a.1)
]

pub rises_filter : (p : Tree → Bool) (ws : List Watched) → Rises (numbers_of ws) → Rises (numbers_of (filter (λ w. p w.1) ws))
rises_filter p [] r = tt
rises_filter p (w ∷ ws) r = elim (cases_Bool (p w.1)) [
  | inl y ↦ rw y (above_filter p w.0 ws r.0, rises_filter p ws r.1)
  | inr n ↦ rw n (rises_filter p ws r.1)
]

-- ---- what a number finds

-- the numbers of the watches with the property are those that find it
pub member_numbers : (p : Tree → Bool) (ws : List Watched) (n : ℕ) → list_any (nat_eq n) (numbers_of (filter (λ w. p w.1) ws)) ≡ finds p ws n
member_numbers p [] n = refl
member_numbers p (w ∷ ws) n = elim (cases_Bool (p w.1)) [
  | inl y ↦ rw (y, and_true) (ap (λ (b : Bool). (n == w.0) || b) (member_numbers p ws n))
  | inr ne ↦ rw (ne, and_none) (member_numbers p ws n)
]

pub finds_with : (p : Tree → Bool) (ws : List Watched) (number : ℕ) (q : Tree) (n : ℕ) → finds p (with_watch ws number q) n ≡ (((n == number) && p q) || finds p ws n)
finds_with p [] number q n = refl
finds_with p (w ∷ ws) number q n = elim (cases_Bool (nat_lt number w.0)) [
  | inl y ↦ rw y refl
  | inr ne ↦ rw ne (ap (λ (b : Bool). ((n == w.0) && p w.1) || b) (finds_with p ws number q n) ∙ or_turn ((n == w.0) && p w.1) ((n == number) && p q) (finds p ws n))
]

-- none of the watches above a number has it
none_above : (p : Tree → Bool) (ws : List Watched) (n : ℕ) → Above n (numbers_of ws) → finds p ws n ≡ false
none_above p [] n a = refl
none_above p (w ∷ ws) n a = let e : (n == w.0) ≡ false = ne_eqb n w.0 (λ s. absurd (omega (arith, s, a.0))) in rw e (none_above p ws n a.1)

all_above : (ws : List Watched) (n : ℕ) → Above n (numbers_of ws) → without_watch ws n ≡ ws
all_above [] n a = refl
all_above (w ∷ ws) n a = let e : (n == w.0) ≡ false = ne_eqb n w.0 (λ s. absurd (omega (arith, s, a.0))) in rw e (ap (λ (l : List Watched). w ∷ l) (all_above ws n a.1))

pub finds_without : (p : Tree → Bool) (ws : List Watched) (number n : ℕ) → finds p (without_watch ws number) n ≡ (finds p ws n && not (n == number))
finds_without p [] number n = refl
finds_without p (w ∷ ws) number n = elim (cases_Bool (number == w.0)) [
  | inl y ↦ rw y (elim (cases_Bool (n == w.0)) [
    | inl z ↦ let e : (n == number) ≡ true = eq-eqb n number (eqb-true n w.0 z ∙ sym (eqb-true number w.0 y)) in
        let rest : finds p (without_watch ws number) n ≡ false = finds_without p ws number n ∙ (rw e (and_none _)) in rest ∙ sym (rw e (and_none _))
    | inr z ↦ rw z (finds_without p ws number n)
  ])
  | inr ne ↦ rw ne (elim (cases_Bool (n == number)) [
    | inl z ↦ let e : (n == w.0) ≡ false = ap (λ (k : ℕ). k == w.0) (eqb-true n number z) ∙ ne in rw e (finds_without p ws number n)
    | inr z ↦
        let ih : finds p (without_watch ws number) n ≡ finds p ws n = finds_without p ws number n ∙ (rw z (and_true _)) in
        rw z (ap (λ (b : Bool). ((n == w.0) && p w.1) || b) ih ∙ sym (and_true _))
  ])
]

-- ---- the map of watches

pub numbers_watched : (es : List (ℕ × Watch)) → numbers_of (watched es) ≡ keys_of es
numbers_watched [] = refl
numbers_watched (e ∷ es) = ap (λ (l : List ℕ). e.0 ∷ l) (numbers_watched es)

pub set_watched : (es : List (ℕ × Watch)) (n : ℕ) → is_some (lookup (is_at (nat_cmp n)) es) ≡ is_set (watched es) n
set_watched [] n = refl
set_watched (e ∷ es) n = elim (cases_Bool (n == e.0)) [
  | inl y ↦ rw (same_number n e.0, y) refl
  | inr ne ↦ rw (same_number n e.0, ne) (set_watched es n)
]

pub finds_none : (p : Tree → Bool) (ws : List Watched) (n : ℕ) → is_set ws n ≡ false → finds p ws n ≡ false
finds_none p [] n h = refl
finds_none p (w ∷ ws) n h = elim (cases_Bool (n == w.0)) [
  | inl y ↦ let ne : true ≡ false = sym (rw y refl) ∙ h in absurd cc
  | inr ne ↦ let rest : is_set ws n ≡ false = sym (rw ne refl) ∙ h in rw ne (finds_none p ws n rest)
]

pub finds_one : (p : Tree → Bool) (es : List (ℕ × Watch)) (n : ℕ) (v : Watch) → Rises (keys_of es) → lookup (is_at (nat_cmp n)) es ≡ Some v → finds p (watched es) n ≡ p (tree v.query)
finds_one p [] n v r h = let ne : ⊥ = cc in absurd ne
finds_one p (e ∷ es) n v r h = elim (cases_Bool (n == e.0)) [
  | inl y ↦
      let same : Some e.1 ≡ Some v = sym (rw (same_number n e.0, y) refl) ∙ h in
      let it : e.1 ≡ v = cc in
      let here : n ≡ e.0 = eqb-true n e.0 y in
      let above : Above n (numbers_of (watched es)) = subst (λ (k : ℕ). Above k (numbers_of (watched es))) (sym here) (subst (λ (l : List ℕ). Above e.0 l) (sym (numbers_watched es)) r.0) in
      let none : finds p (watched es) n ≡ false = none_above p (watched es) n above in
      rw (y, none, or_none) (ap (λ (w : Watch). p (tree w.query)) it)
  | inr ne ↦ let rest : lookup (is_at (nat_cmp n)) es ≡ Some v = sym (rw (same_number n e.0, ne) refl) ∙ h in rw ne (finds_one p es n v r.1 rest)
]

pub watched_insert : (es : List (ℕ × Watch)) (n : ℕ) (v : Watch) → lookup (is_at (nat_cmp n)) es ≡ None → watched (insert_entry nat_cmp es n v) ≡ with_watch (watched es) n (tree v.query)
watched_insert [] n v h = refl
watched_insert (e ∷ es) n v h = elim (cases_order n e.0) [
  | inl s ↦ let y : (n == e.0) ≡ true = eq-eqb n e.0 s in let ne : Some e.1 ≡ None = sym (rw (same_number n e.0, y) refl) ∙ h in absurd cc
  | inr o ↦ elim o [
    | inl lt ↦ let l : nat_lt n e.0 ≡ true = lt-ltb n e.0 lt in rw l refl
    | inr gt ↦
        let l : nat_lt n e.0 ≡ false = le-ltb n e.0 (omega arith) in
        let ne : (n == e.0) ≡ false = ne_eqb n e.0 (λ s. absurd (omega arith)) in
        let rest : lookup (is_at (nat_cmp n)) es ≡ None = sym (rw (same_number n e.0, ne) refl) ∙ h in
        rw (l, ne) (ap (λ (ws : List Watched). (e.0, tree e.1.query) ∷ ws) (watched_insert es n v rest))
  ]
]

pub watched_remove : (es : List (ℕ × Watch)) (n : ℕ) → Rises (keys_of es) → watched (remove_entry (is_at (nat_cmp n)) es) ≡ without_watch (watched es) n
watched_remove [] n r = refl
watched_remove (e ∷ es) n r = elim (cases_Bool (n == e.0)) [
  | inl y ↦
      let here : n ≡ e.0 = eqb-true n e.0 y in
      let above : Above n (numbers_of (watched es)) = subst (λ (k : ℕ). Above k (numbers_of (watched es))) (sym here) (subst (λ (l : List ℕ). Above e.0 l) (sym (numbers_watched es)) r.0) in
      rw (same_number n e.0, y) (sym (all_above (watched es) n above))
  | inr ne ↦ rw (same_number n e.0, ne) (ap (λ (ws : List Watched). (e.0, tree e.1.query) ∷ ws) (watched_remove es n r.1))
]

-- ---- what holds of each query

first_has : (P : Watched → Type 0) (w : Watched) (ws : List Watched) → All P (w ∷ ws) → P w
first_has P w ws h = h 0 w (omega arith)

others_have : (P : Watched → Type 0) (w : Watched) (ws : List Watched) → All P (w ∷ ws) → All P ws
others_have P w ws h k d l = h (suc k) d (omega (arith, l))

pub formed_with : (ws : List Watched) (n : ℕ) (q : Tree) → AllWellFormed ws → IsWellFormed q → AllWellFormed (with_watch ws n q)
formed_with [] n q h k = All-cons (λ (w : Watched). IsWellFormed w.1) (n, q) [] k h
formed_with (w ∷ ws) n q h k =
    let P : Watched → Type 0 = λ w. IsWellFormed w.1 in
    elim (cases_Bool (nat_lt n w.0)) [
      | inl y ↦ rw y (All-cons P (n, q) (w ∷ ws) k h)
      | inr ne ↦ rw ne (All-cons P w (with_watch ws n q) (first_has P w ws h) (formed_with ws n q (others_have P w ws h) k))
    ]

pub formed_without : (ws : List Watched) (n : ℕ) → AllWellFormed ws → AllWellFormed (without_watch ws n)
formed_without [] n h = h
formed_without (w ∷ ws) n h =
    let P : Watched → Type 0 = λ w. IsWellFormed w.1 in
    elim (cases_Bool (n == w.0)) [
      | inl y ↦ rw y (formed_without ws n (others_have P w ws h))
      | inr ne ↦ rw ne (All-cons P w (without_watch ws n) (first_has P w ws h) (formed_without ws n (others_have P w ws h)))
    ]
