-- Sets of segments as flags, and as numbers.
use Rattle.std.specs.Prelude.{◌≡◌, ℕ, zero, suc, ◌+◌, ◌*◌, ◌/◌, ◌%◌, ◌^◌, ◌<◌, ◌==◌, Bool, true, false, List, [], ◌∷◌, get_or, Option, Some, None, if◌then◌else◌}
use Rattle.std.specs.Int.{bit_at}
use Rattle.std.proofs.Common.{arith, pow-suc, refl}

-- whether a number has the bit of this segment, which is the bit of the segment's number
abbrev pub has_mark : ℕ → ℕ → Bool
has_mark marks s = bit_at marks s == 1

-- the k lowest bits of a number, the lowest first
unfoldable pub flags : ℕ → ℕ → List Bool
flags zero n = []
flags (suc k) n = (n % 2 == 1) ∷ flags k (n / 2)

-- the number with these bits
unfoldable pub number : List Bool → ℕ
number [] = 0
number (b ∷ bs) = (if b then 1 else 0) + 2 * number bs

-- one bit
bit_is : (d : ℕ) → d < 2 → (if d == 1 then 1 else 0) ≡ d
bit_is zero h = refl
bit_is (suc zero) h = refl
bit_is (suc (suc d)) h = absurd (omega (arith, h))

pub number_flags : (k n : ℕ) → n < 2 ^ k → number (flags k n) ≡ n
unfolding flags number
number_flags zero n h = omega (arith, h)
number_flags (suc k) n h = omega (arith, bit_is (n % 2) (omega arith), number_flags k (n / 2) (omega (arith, h, pow-suc 2 k)))

-- the greatest member below an end
pub record IsLast (members : List Bool) (end n : ℕ) : Type 0 where
  pub below : n < end
  pub member : get_or members n true ≡ true
  pub last : (s : ℕ) → n < s → s < end → get_or members s true ≡ false

-- none exactly where there is none
abbrev pub IsLastBelow : List Bool → ℕ → Option ℕ → Type 0
IsLastBelow members end None = (s : ℕ) → s < end → get_or members s true ≡ false
IsLastBelow members end (Some n) = IsLast members end n
