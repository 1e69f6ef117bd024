-- The first place of a list where a test holds.
use Rattle.std.proofs.Common.{◌≡◌, ℕ, ◌<◌, ◌≤◌, Bool, true, false, not, List, length, get_or, sym, arith}
use Rattle.std.proofs.lemmas.List.Sums.{position_or_len_is, prefix_len-le-length}
use Rattle.std.specs.List.{position_or_len}

pub found_at : (p : ℕ → Bool) (xs : List ℕ) (i : ℕ) → i < length xs → ((k : ℕ) → k < i → p (get_or xs k 0) ≡ false) → p (get_or xs i 0) ≡ true → i ≡ position_or_len p xs
found_at p xs i h below here = sym (position_or_len_is p xs i 0 (omega arith) below (λ _. here))

pub found_none : (p : ℕ → Bool) (xs : List ℕ) (i : ℕ) → length xs ≤ i → ((k : ℕ) → k < i → p (get_or xs k 0) ≡ false) → length xs ≡ position_or_len p xs
found_none p xs i h below = sym (position_or_len_is p xs (length xs) 0 (omega arith) (λ k l. below k (omega arith)) (λ l. absurd (omega arith)))

pub found_within : (p : ℕ → Bool) (xs : List ℕ) (n : ℕ) → n ≡ position_or_len p xs → n ≤ length xs
found_within p xs n e = let l : position_or_len p xs ≤ length xs = prefix_len-le-length (λ b. not (p b)) xs in omega (arith, e)
