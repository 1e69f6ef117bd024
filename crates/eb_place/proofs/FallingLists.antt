-- Lists of numbers that fall or stay below a bound, place by place.
use Rattle.std.proofs.Common.{ℕ, zero, suc, ◌<◌, ◌≤◌, List, [], ◌∷◌, length, get_or, arith}
use Rattle.eb_place.specs.Falling.{IsFalling, AllBelow}

pub falls_at : (xs : List ℕ) (k : ℕ) → IsFalling xs → suc k < length xs → get_or xs (suc k) 0 < get_or xs k 0
falls_at [] k f h = absurd (omega arith)
falls_at (x ∷ []) k f h = absurd (omega arith)
falls_at (x ∷ y ∷ ys) zero f h = f.0
falls_at (x ∷ y ∷ ys) (suc k) f h = falls_at (y ∷ ys) k f.1 (omega arith)

-- a list falls where each is below the one before it
pub falls_from : (xs : List ℕ) → ((k : ℕ) → suc k < length xs → get_or xs (suc k) 0 < get_or xs k 0) → IsFalling xs
falls_from [] h = tt
falls_from (x ∷ []) h = tt
falls_from (x ∷ y ∷ ys) h = (h 0 (omega arith), falls_from (y ∷ ys) (λ k l. h (suc k) (omega arith)))

pub below_at : (n : ℕ) (xs : List ℕ) (k : ℕ) → AllBelow n xs → k < length xs → get_or xs k 0 < n
below_at n [] k a h = absurd (omega arith)
below_at n (x ∷ xs) zero a h = a.0
below_at n (x ∷ xs) (suc k) a h = below_at n xs k a.1 (omega arith)

pub below_from : (n : ℕ) (xs : List ℕ) → ((k : ℕ) → k < length xs → get_or xs k 0 < n) → AllBelow n xs
below_from n [] h = tt
below_from n (x ∷ xs) h = (h 0 (omega arith), below_from n xs (λ k l. h (suc k) (omega arith)))

pub below_more : (m n : ℕ) (xs : List ℕ) → m ≤ n → AllBelow m xs → AllBelow n xs
below_more m n [] l h = tt
below_more m n (x ∷ xs) l h = (omega (arith, h.0), below_more m n xs l h.1)
