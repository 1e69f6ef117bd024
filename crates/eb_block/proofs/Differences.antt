-- Differences of a falling list, one by one.
use Rattle.std.proofs.Common.{◌≡◌, ℕ, zero, suc, ◌+◌, ◌-◌, ◌^◌, ◌<◌, ◌≤◌, List, [], ◌∷◌, ◌++◌, take, drop, length, get_or, set, fold, max, refl, ap, sym, ◌∙◌, subst, arith, inl, inr}
use Rattle.std.proofs.lemmas.Bool.{cases_lt}
use Rattle.std.proofs.lemmas.List.{take_all, take_more, drop_more, take_more_set}
use Rattle.std.proofs.lemmas.Nat.{leading_length}
use Rattle.std.proofs.Math.Pow.{pow_mono}
use Rattle.eb_place.specs.Packed.{differences, width_of}
use Rattle.eb_place.specs.Falling.{IsFalling, AllBelow}
use Rattle.eb_place.specs.Postings.{posting_bits}
use Rattle.eb_place.proofs.FallingLists.{falls_at, below_at, below_more}

pub length-differences : (xs : List ℕ) → length (differences xs) ≡ length xs - 1
length-differences [] = refl
length-differences (x ∷ []) = refl
length-differences (x ∷ y ∷ ys) = let ih = length-differences (y ∷ ys) in omega arith

pub get_or-differences : (xs : List ℕ) (k : ℕ) → suc k < length xs → get_or (differences xs) k 0 ≡ get_or xs k 0 - get_or xs (suc k) 0
get_or-differences [] k h = absurd (omega arith)
get_or-differences (x ∷ []) k h = absurd (omega arith)
get_or-differences (x ∷ y ∷ ys) zero h = refl
get_or-differences (x ∷ y ∷ ys) (suc k) h = get_or-differences (y ∷ ys) k (omega arith)

under_max : (a : ℕ) (xs : List ℕ) → (a ≤ fold max a xs) × AllBelow (suc (fold max a xs)) xs
under_max a [] = (omega arith, tt)
under_max a (x ∷ xs) = let r = under_max (max a x) xs in (omega (arith, r.0), (omega (arith, r.0), r.1))

max_below : (n a : ℕ) (xs : List ℕ) → a < n → AllBelow n xs → fold max a xs < n
max_below n a [] l h = l
max_below n a (x ∷ xs) l h = max_below n (max a x) xs (omega (arith, h.0)) h.1

differences_below : (n : ℕ) (xs : List ℕ) → AllBelow n xs → AllBelow n (differences xs)
differences_below n [] h = tt
differences_below n (x ∷ []) h = tt
differences_below n (x ∷ y ∷ ys) h = (omega (arith, h.0), differences_below n (y ∷ ys) h.1)

-- the width of a falling list's block: it has at most the bits of a posting, and holds each
-- difference
pub record IsWidth (width : ℕ) (xs : List ℕ) : Type 0 where
  pub few : width ≤ posting_bits
  pub holds : AllBelow (2 ^ width) (differences xs)

pub is_width : (xs : List ℕ) → AllBelow (2 ^ posting_bits) xs → IsWidth (width_of (fold max 0 (differences xs))) xs
is_width xs h =
    let ds = differences xs in
    let top = fold max 0 ds in
    let b : top < 2 ^ posting_bits = max_below (2 ^ posting_bits) 0 ds (omega arith) (differences_below (2 ^ posting_bits) xs h) in
    let r = leading_length 64 top (omega arith) in
    let q = r.1 in
    let e : width_of top ≡ r.0 = omega (arith, q) in
    let p : top < 2 ^ width_of top = subst (λ n. top < 2 ^ n) (sym e) r.2 in
    let few : r.0 ≤ posting_bits = elim (cases_lt posting_bits r.0) [
      | inl high ↦ let w : 2 ^ suc posting_bits ≤ 2 ^ r.0 = pow_mono high in absurd (omega (arith, r.3))
      | inr low ↦ low
    ] in
    record { few = omega (arith, e, few); holds = below_more (suc top) (2 ^ width_of top) ds p (under_max 0 ds).1 }

-- the difference at i - 1
pub record IsStep (xs : List ℕ) (i : ℕ) : Type 0 where
  pub falls : get_or xs i 0 < get_or xs (i - 1) 0
  pub inside : i - 1 < length (differences xs)
  pub is : get_or (differences xs) (i - 1) 0 ≡ get_or xs (i - 1) 0 - get_or xs i 0
  pub before : take (i + 1 - 1) (differences xs) ≡ take (i - 1) (differences xs) ++ (get_or xs (i - 1) 0 - get_or xs i 0) ∷ []
  pub after : drop (i - 1) (differences xs) ≡ (get_or xs (i - 1) 0 - get_or xs i 0) ∷ drop (i + 1 - 1) (differences xs)

pub step_at : (xs : List ℕ) (i : ℕ) → IsFalling xs → 1 ≤ i → i < length xs → IsStep xs i
step_at xs i f l h =
    let k = i - 1 in
    let e : suc k ≡ i = omega arith in
    let g : k + 1 ≡ i + 1 - 1 = omega arith in
    let b : k < length (differences xs) = omega (arith, length-differences xs) in
    let lk : suc k < length xs = omega arith in
    let is = get_or-differences xs k lk ∙ ap (λ j. get_or xs k 0 - get_or xs j 0) e in
    record {
      falls = subst (λ j. get_or xs j 0 < get_or xs k 0) e (falls_at xs k f lk);
      inside = b;
      is = is;
      before = ap (λ j. take j (differences xs)) (sym g) ∙ take_more (differences xs) k 0 b ∙ ap (λ d. take k (differences xs) ++ d ∷ []) is;
      after = drop_more (differences xs) k 0 b ∙ ap (λ d. d ∷ drop (k + 1) (differences xs)) is ∙ ap (λ j. (get_or xs k 0 - get_or xs i 0) ∷ drop j (differences xs)) g;
    }

pub all_before : (xs : List ℕ) (i : ℕ) → length xs ≤ i → take (i - 1) (differences xs) ≡ differences xs
all_before xs i h = take_all (i - 1) (differences xs) (omega (arith, length-differences xs))

-- what a number that is found from the one before it and the difference is
pub record IsFound (xs : List ℕ) (i d : ℕ) : Type 0 where
  pub fits : d < 2 ^ posting_bits
  pub low : d ≤ get_or xs (i - 1) 0
  pub is : get_or xs (i - 1) 0 - d ≡ get_or xs (i + 1 - 1) 0
  pub here : get_or xs (i - 1) 0 - d ≡ get_or xs i 0

pub found_at : (xs : List ℕ) (i d : ℕ) → IsFalling xs → AllBelow (2 ^ posting_bits) xs → 1 ≤ i → i < length xs → d ≡ get_or xs (i - 1) 0 - get_or xs i 0 → IsFound xs i d
found_at xs i d f a l h e =
    let s = step_at xs i f l h in
    let b = below_at (2 ^ posting_bits) xs (i - 1) a (omega arith) in
    let falls = s.falls in
    let g : i + 1 - 1 ≡ i = omega arith in
    let here : get_or xs (i - 1) 0 - d ≡ get_or xs i 0 = omega arith in
    record { fits = omega arith; low = omega arith; is = here ∙ ap (λ j. get_or xs j 0) (sym g); here = here }

-- one more of a list is written
pub take_written : (into xs : List ℕ) (i v : ℕ) → i < length into → i < length xs → take i into ≡ take i xs → v ≡ get_or xs i 0 → take (i + 1) (set into i v) ≡ take (i + 1) xs
take_written into xs i v l h t e = take_more_set into i v l ∙ ap (λ zs. zs ++ v ∷ []) t ∙ ap (λ d. take i xs ++ d ∷ []) e ∙ sym (take_more xs i 0 h)
