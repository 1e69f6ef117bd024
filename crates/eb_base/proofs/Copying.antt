-- The first elements of a list, and one more.
use Rattle.std.proofs.Common.{◌≡◌, ℕ, zero, suc, ◌+◌, ◌++◌, List, [], ◌∷◌, take, slice_get, Some, ap, arith}

pub take_got : {A : Type 0} (xs : List A) (n : ℕ) (x : A) → slice_get xs n ≡ Some x → take (n + 1) xs ≡ take n xs ++ x ∷ []
take_got [] n x e = absurd cc
take_got (y ∷ xs) zero x e = let h : y ≡ x = cc e in ap (λ z. z ∷ []) h
take_got (y ∷ xs) (suc n) x e = let s : suc n + 1 ≡ suc (n + 1) = omega arith in rw s (ap (λ z. y ∷ z) (take_got xs n x e))
