-- The greatest number below an end that passes a test.
use Rattle.std.proofs.Common.{◌≡◌, ℕ, zero, suc, ◌<◌, ◌≤◌, Bool, true, false, not, max, ◌&&◌, ◌||◌, List, [], ◌∷◌, refl, sym, ap, ◌∙◌, inl, inr, arith}
use Rattle.std.proofs.lemmas.Bool.{cases_Bool, cases_lt, lt-ltb, le-ltb, and_from, or_left, or_right, or_from, cond-true, cond-false}
use Rattle.eb_cursor.specs.Tops.{top, below}
use Rattle.eb_cursor.specs.Lists.{from_below}

pub top_here : (f : ℕ → Bool) (n : ℕ) → f n ≡ true → top f (suc n) ≡ suc n
top_here f n e = rw e refl

pub top_past : (f : ℕ → Bool) (n : ℕ) → f n ≡ false → top f (suc n) ≡ top f n
top_past f n e = rw e refl

pub top_le : (f : ℕ → Bool) (n : ℕ) → top f n ≤ n
top_le f zero = omega arith
top_le f (suc n) = elim (cases_Bool (f n)) [ inl e ↦ rw (top_here f n e) (omega arith) | inr e ↦ omega (arith, top_past f n e, top_le f n) ]

-- between the top and the end the top is the same
pub top_between : (f : ℕ → Bool) (m n : ℕ) → top f n ≤ m → m ≤ n → top f m ≡ top f n
top_between f m zero h i = let e : m ≡ 0 = omega arith in rw e refl
top_between f m (suc n) h i = elim (cases_lt m (suc n)) [
  | inl k ↦ elim (cases_Bool (f n)) [
    | inl e ↦ absurd (omega (arith, top_here f n e))
    | inr e ↦ top_between f m n (omega (arith, top_past f n e)) (omega arith) ∙ sym (top_past f n e)
  ]
  | inr k ↦ let e : m ≡ suc n = omega arith in rw e refl
]

pub top_twice : (f : ℕ → Bool) (n : ℕ) → top f (top f n) ≡ top f n
top_twice f n = top_between f (top f n) n (omega arith) (top_le f n)

pub top_passes : (f : ℕ → Bool) (n k : ℕ) → top f n ≡ suc k → f k ≡ true
top_passes f zero k e = absurd (omega arith)
top_passes f (suc n) k e = elim (cases_Bool (f n)) [
  | inl h ↦ let i : n ≡ k = omega (arith, top_here f n h) in rw (← i) h
  | inr h ↦ top_passes f n k (sym (top_past f n h) ∙ e)
]

-- a stricter test has no greater top
pub top_implied : (f h : ℕ → Bool) → ((n : ℕ) → h n ≡ true → f n ≡ true) → (n : ℕ) → top h n ≤ top f n
top_implied f h w zero = omega arith
top_implied f h w (suc n) = elim (cases_Bool (h n)) [
  | inl e ↦ omega (arith, top_here h n e, top_here f n (w n e))
  | inr e ↦ elim (cases_Bool (f n)) [
    | inl i ↦ omega (arith, top_here f n i, top_past h n e, top_le h n)
    | inr i ↦ omega (arith, top_past f n i, top_past h n e, top_implied f h w n)
  ]
]

pub top_skips : (f h : ℕ → Bool) → ((n : ℕ) → h n ≡ true → f n ≡ true) → (n : ℕ) → top h n ≡ top h (top f n)
top_skips f h w n = sym (top_between h (top f n) n (top_implied f h w n) (top_le f n))

top_grows : (f : ℕ → Bool) (n : ℕ) → top f n ≤ top f (suc n)
top_grows f n = elim (cases_Bool (f n)) [ inl e ↦ rw e (omega (arith, top_le f n)) | inr e ↦ rw e (omega arith) ]

pub top_up : (f : ℕ → Bool) (a b : ℕ) → a ≤ b → top f a ≤ top f b
top_up f a zero h = let e : a ≡ 0 = omega (arith, h) in omega (arith, ap (top f) e)
top_up f a (suc b) h = elim (cases_lt b a) [
  | inl all ↦ let e : a ≡ suc b = omega (arith, h, all) in omega (arith, ap (top f) e)
  | inr low ↦ omega (arith, top_up f a b low, top_grows f b)
]

pub top_same : (f h : ℕ → Bool) → ((n : ℕ) → f n ≡ h n) → (n : ℕ) → top f n ≡ top h n
top_same f h w zero = refl
top_same f h w (suc n) = rw (w n, top_same f h w n) refl

pub top_and : (f g : ℕ → Bool) (n : ℕ) → top f n ≡ n → top g n ≡ n → top (λ i. f i && g i) n ≡ n
top_and f g zero e i = refl
top_and f g (suc n) e i = top_here (λ j. f j && g j) n (and_from (f n) (g n) (top_passes f (suc n) n e) (top_passes g (suc n) n i))

pub top_or : (f g : ℕ → Bool) (n : ℕ) → top (λ i. f i || g i) n ≡ max (top f n) (top g n)
top_or f g zero = refl
top_or f g (suc n) = elim (cases_Bool (f n)) [
  | inl e ↦ omega (arith, top_here (λ i. f i || g i) n (or_left (f n) (g n) e), top_here f n e, top_le g (suc n))
  | inr e ↦ elim (cases_Bool (g n)) [
    | inl i ↦ omega (arith, top_here (λ j. f j || g j) n (or_right (f n) (g n) i), top_here g n i, top_le f (suc n))
    | inr i ↦ omega (arith, top_past (λ j. f j || g j) n (or_from (f n) (g n) e i), top_past f n e, top_past g n i, top_or f g n)
  ]
]

pub top_not_here : (f : ℕ → Bool) (n : ℕ) → top f (suc n) ≤ n → top (λ i. not (f i)) (suc n) ≡ suc n
top_not_here f n h = elim (cases_Bool (f n)) [
  | inl e ↦ absurd (omega (arith, top_here f n e))
  | inr e ↦ rw e refl
]

pub top_not_past : (f : ℕ → Bool) (n : ℕ) → top f (suc n) ≡ suc n → top (λ i. not (f i)) (suc n) ≡ top (λ i. not (f i)) n
top_not_past f n e = rw (top_passes f (suc n) n e) refl

-- ---- lists that fall

pub from_below_in : (m z : ℕ) (zs : List ℕ) → z < m → from_below m (z ∷ zs) ≡ z ∷ zs
from_below_in m z zs h = rw (lt-ltb z m h) refl

pub from_below_past : (m z : ℕ) (zs : List ℕ) → m ≤ z → from_below m (z ∷ zs) ≡ from_below m zs
from_below_past m z zs h = rw (le-ltb z m h) refl

pub from_below_twice : (e l : ℕ) (zs : List ℕ) → e ≤ l → from_below e (from_below l zs) ≡ from_below e zs
from_below_twice e l [] h = refl
from_below_twice e l (z ∷ zs) h = elim (cases_lt z l) [
  | inl i ↦ ap (from_below e) (from_below_in l z zs i)
  | inr i ↦ ap (from_below e) (from_below_past l z zs i) ∙ from_below_twice e l zs h ∙ sym (from_below_past e z zs (omega arith))
]

from_below_above : (f : ℕ → Bool) (n m : ℕ) → n ≤ m → from_below m (below f n) ≡ below f n
from_below_above f zero m h = refl
from_below_above f (suc n) m h = elim (cases_Bool (f n)) [
  | inl e ↦ rw e (from_below_in m n (below f n) (omega arith))
  | inr e ↦ rw e (from_below_above f n m (omega arith))
]

pub from_below-below : (f : ℕ → Bool) (e l : ℕ) → e ≤ l → from_below e (below f l) ≡ below f e
from_below-below f e zero h = let i : e ≡ 0 = omega arith in rw i refl
from_below-below f e (suc n) h = elim (cases_lt e (suc n)) [
  | inl k ↦ elim (cases_Bool (f n)) [
    | inl i ↦ rw i (from_below_past e n (below f n) (omega arith) ∙ from_below-below f e n (omega arith))
    | inr i ↦ rw i (from_below-below f e n (omega arith))
  ]
  | inr k ↦ let i : e ≡ suc n = omega arith in rw i (from_below_above f (suc n) (suc n) (omega arith))
]

pub top_none : (f : ℕ → Bool) (n : ℕ) → below f n ≡ [] → top f n ≡ 0
top_none f zero e = refl
top_none f (suc n) e = elim (cases_Bool (f n)) [
  | inl i ↦ let k : n ∷ below f n ≡ [] = sym (cond-true (f n) (n ∷ below f n) (below f n) i) ∙ e in cc
  | inr i ↦ top_past f n i ∙ top_none f n (sym (cond-false (f n) (n ∷ below f n) (below f n) i) ∙ e)
]

pub top_first : (f : ℕ → Bool) (n z : ℕ) (zs : List ℕ) → below f n ≡ z ∷ zs → top f n ≡ suc z
top_first f zero z zs e = cc
top_first f (suc n) z zs e = elim (cases_Bool (f n)) [
  | inl i ↦ let k : n ∷ below f n ≡ z ∷ zs = sym (cond-true (f n) (n ∷ below f n) (below f n) i) ∙ e in let j : n ≡ z = cc in top_here f n i ∙ ap suc j
  | inr i ↦ top_past f n i ∙ top_first f n z zs (sym (cond-false (f n) (n ∷ below f n) (below f n) i) ∙ e)
]
