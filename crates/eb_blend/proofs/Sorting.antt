-- What a sort gives, and where the greatest number is.
use Rattle.std.proofs.Common.{◌≡◌, ℕ, suc, ◌+◌, ◌<◌, ◌≤◌, inl, inr, List, [], ◌∷◌, ◌++◌, length, get_or, reverse, cond, nat_lt, true, refl, ap, sym, ◌∙◌, arith}
use Rattle.std.proofs.lemmas.Bool.{cases_Bool, cases_lt, lt-ltb, ltb-true}
use Rattle.std.proofs.lemmas.List.{reverse-append}
use Rattle.std.proofs.lemmas.List.Sorted.{sum_by-IsPermutation}
use Rattle.std.proofs.lemmas.List.Sums.{sum_by-cons}
use Rattle.std.specs.List.{sum_by}
use Rattle.std.specs.List.Sorted.{IsPermutation, IsNonDecreasing}
use Rattle.eb_blend.specs.Blended.{put, rising, falling}

-- each number is no less than the first
abbrev pub Above : ℕ → List ℕ → Type 0
Above x [] = Unit {0}
Above x (y ∷ ys) = (x ≤ y) × Above x ys

abbrev pub Rises : List ℕ → Type 0
Rises [] = Unit {0}
Rises (x ∷ xs) = Above x xs × Rises xs

from_index : (x : ℕ) (xs : List ℕ) → ((j d : ℕ) → j < length xs → x ≤ get_or xs j d) → Above x xs
from_index x [] h = tt
from_index x (y ∷ ys) h = (h 0 0 (omega arith), from_index x ys (λ j d lt. h (suc j) d (omega arith)))

rises_from : (xs : List ℕ) → IsNonDecreasing xs → Rises xs
rises_from [] h = tt
rises_from (x ∷ xs) h = (from_index x xs (λ j d lt. h 0 (suc j) d (omega arith) (omega arith)), rises_from xs (λ i j d le lt. h (suc i) (suc j) d (omega arith) (omega arith)))

weaken : (z y : ℕ) (ys : List ℕ) → z ≤ y → Above y ys → Above z ys
weaken z y [] le a = tt
weaken z y (x ∷ ys) le a = (omega (arith, a.0), weaken z y ys le a.1)

put_above : (x z : ℕ) (ys : List ℕ) → x ≤ z → Above x ys → Above x (put z ys)
put_above x z [] le a = (le, tt)
put_above x z (y ∷ ys) le a = elim (cases_Bool (nat_lt y z)) [ inl e ↦ rw e (a.0, put_above x z ys le a.1) | inr e ↦ rw e (le, a) ]

put_rises : (z : ℕ) (ys : List ℕ) → Rises ys → Rises (put z ys)
put_rises z [] r = (tt, tt)
put_rises z (y ∷ ys) r = elim (cases_lt y z) [
  | inl lt ↦ let e : nat_lt y z ≡ true = lt-ltb y z lt in rw e (put_above y z ys (omega (arith, lt)) r.0, put_rises z ys r.1)
  | inr le ↦ elim (cases_Bool (nat_lt y z)) [
    | inl e ↦ absurd (omega (arith, le, ltb-true y z e))
    | inr e ↦ rw e ((le, weaken z y ys le r.0), r)
  ]
]

rises : (xs : List ℕ) → Rises (rising xs)
rises [] = tt
rises (x ∷ xs) = put_rises x (rising xs) (rises xs)

put_sums : (f : ℕ → ℕ) (x : ℕ) (xs : List ℕ) → sum_by f (put x xs) ≡ f x + sum_by f xs
put_sums f x [] = sum_by-cons f x []
put_sums f x (y ∷ ys) = elim (cases_Bool (nat_lt y x)) [
  | inl e ↦ rw e (omega (arith, put_sums f x ys, sum_by-cons f y (put x ys), sum_by-cons f y ys))
  | inr e ↦ rw e (sum_by-cons f x (y ∷ ys))
]

rising_sums : (f : ℕ → ℕ) (xs : List ℕ) → sum_by f (rising xs) ≡ sum_by f xs
rising_sums f [] = refl
rising_sums f (x ∷ xs) = put_sums f x (rising xs) ∙ ap (λ n. f x + n) (rising_sums f xs) ∙ sym (sum_by-cons f x xs)

-- 1 where the number is below the first
abbrev below : ℕ → ℕ → ℕ
below y z = cond (nat_lt z y) 1 0

none_below : (y z : ℕ) (ys : List ℕ) → y ≤ z → Above z ys → sum_by (below y) ys ≡ 0
none_below y z [] le a = refl
none_below y z (x ∷ ys) le a =
    let rest = none_below y z ys le a.1 in
    elim (cases_Bool (nat_lt x y)) [
      | inl e ↦ absurd (omega (arith, le, a.0, ltb-true x y e))
      | inr e ↦ sum_by-cons (below y) x ys ∙ rw (e, rest) refl
    ]

not_below : (y x : ℕ) → below y x ≡ 0 → y ≤ x
not_below y x h = elim (cases_lt x y) [
  | inl lt ↦ let e : nat_lt x y ≡ true = lt-ltb x y lt in let h' : 1 ≡ 0 = rw e at h in absurd (omega (arith, h'))
  | inr le ↦ le
]

same_below : (y x : ℕ) (ys xs : List ℕ) → Above y ys → sum_by (below y) (x ∷ xs) ≡ sum_by (below y) (y ∷ ys) → y ≤ x
same_below y x ys xs a e =
    let none = none_below y y (y ∷ ys) (omega arith) (omega arith, a) in
    not_below y x (omega (arith, e, none, sum_by-cons (below y) x xs))

unique : (xs ys : List ℕ) → Rises xs → Rises ys → ((f : ℕ → ℕ) → sum_by f xs ≡ sum_by f ys) → xs ≡ ys
unique [] [] r s h = refl
unique [] (y ∷ ys) r s h = absurd (omega (arith, h (λ z. 1), sum_by-cons (λ (z : ℕ). 1) y ys))
unique (x ∷ xs) [] r s h = absurd (omega (arith, h (λ z. 1), sum_by-cons (λ (z : ℕ). 1) x xs))
unique (x ∷ xs) (y ∷ ys) r s h =
    let up = same_below y x ys xs s.0 (h (below y)) in
    let down = same_below x y xs ys r.0 (sym (h (below x))) in
    let e : x ≡ y = omega (arith, up, down) in
    let rest = unique xs ys r.1 s.1 (λ f. omega (arith, h f, ap f e, sum_by-cons f x xs, sum_by-cons f y ys)) in
    λ i. e i ∷ rest i

-- a sort gives the rising list
pub sorted_is : (xs ys : List ℕ) → IsPermutation xs ys → IsNonDecreasing ys → rising xs ≡ ys
sorted_is xs ys p h = unique (rising xs) ys (rises xs) (rises_from ys h) (λ f. rising_sums f xs ∙ sym (sum_by-IsPermutation f xs ys p))

-- ---- the greatest

-- each number is below the first
abbrev pub Below : ℕ → List ℕ → Type 0
Below x [] = Unit {0}
Below x (y ∷ ys) = (y < x) × Below x ys

put_below : (x z : ℕ) (ys : List ℕ) → z < x → Below x ys → Below x (put z ys)
put_below x z [] le a = (le, tt)
put_below x z (y ∷ ys) le a = elim (cases_Bool (nat_lt y z)) [ inl e ↦ rw e (a.0, put_below x z ys le a.1) | inr e ↦ rw e (le, a) ]

rising_below : (x : ℕ) (xs : List ℕ) → Below x xs → Below x (rising xs)
rising_below x [] b = tt
rising_below x (y ∷ ys) b = put_below x y (rising ys) b.0 (rising_below x ys b.1)

put_last : (x : ℕ) (xs : List ℕ) → Below x xs → put x xs ≡ xs ++ x ∷ []
put_last x [] b = refl
put_last x (y ∷ ys) b = let e : nat_lt y x ≡ true = lt-ltb y x b.0 in rw e (ap (λ (z : List ℕ). y ∷ z) (put_last x ys b.1))

put_before : (a x : ℕ) (xs : List ℕ) → a < x → put a (xs ++ x ∷ []) ≡ put a xs ++ x ∷ []
put_before a x [] lt = elim (cases_Bool (nat_lt x a)) [ inl e ↦ absurd (omega (arith, lt, ltb-true x a e)) | inr e ↦ rw e refl ]
put_before a x (y ∷ ys) lt = elim (cases_Bool (nat_lt y a)) [ inl e ↦ rw e (ap (λ (z : List ℕ). y ∷ z) (put_before a x ys lt)) | inr e ↦ rw e refl ]

rising_greatest : (us bs : List ℕ) (x : ℕ) → Below x us → Below x bs → rising (us ++ x ∷ bs) ≡ rising (us ++ bs) ++ x ∷ []
rising_greatest [] bs x a b = put_last x (rising bs) (rising_below x bs b)
rising_greatest (y ∷ us) bs x a b = ap (put y) (rising_greatest us bs x a.1 b) ∙ put_before y x (rising (us ++ bs)) a.0

pub falling_greatest : (us bs : List ℕ) (x : ℕ) → Below x us → Below x bs → falling (us ++ x ∷ bs) ≡ x ∷ falling (us ++ bs)
falling_greatest us bs x a b = ap reverse (rising_greatest us bs x a b) ∙ reverse-append (rising (us ++ bs)) (x ∷ [])

pub below-append : (x : ℕ) (us bs : List ℕ) → Below x us → Below x bs → Below x (us ++ bs)
below-append x [] bs a b = b
below-append x (y ∷ us) bs a b = (a.0, below-append x us bs a.1 b)
