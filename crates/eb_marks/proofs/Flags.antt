-- The flags of a number, of two numbers, and of a number with other bits.
use Rattle.std.proofs.Common.{◌≡◌, ◌≢◌, ℕ, zero, suc, ◌*◌, ◌/◌, ◌%◌, ◌^◌, ◌<◌, ◌≤◌, ◌==◌, ◌&&◌, ◌||◌, Bool, true, false, get_or, min, max}
use Rattle.std.proofs.Common.{refl, ap, sym, ◌∙◌, arith, inl, inr}
use Rattle.std.specs.Int.{bit_at, bit_not, w64}
use Rattle.std.specs.Int.RustNames.{bit_or, bit_and}
use Rattle.std.proofs.lemmas.Bool.{cases_lt}
use Rattle.std.proofs.lemmas.Nat.{or_lt}
use Rattle.std.proofs.lemmas.Nat.Bits.{bit_at_lowest, bit_at-suc, bit_at_and, bit_at_or, bit_at-lt, bit_at_ones, bit_at_mask_inside, bit_at_mask_below, bit_at_clear_same, bit_at_clear_other, ones_shl}
use Rattle.eb_marks.specs.Members.{has_mark, flags}

pub flag_is : (k n s : ℕ) → s < k → get_or (flags k n) s true ≡ has_mark n s
unfolding flags
flag_is zero n s h = absurd (omega (arith, h))
flag_is (suc k) n zero h = ap (λ z. z == 1) (sym (bit_at_lowest n))
flag_is (suc k) n (suc s) h = flag_is k (n / 2) s (omega (arith, h)) ∙ ap (λ z. z == 1) (sym (bit_at-suc n s))

pub flag_past : (k n s : ℕ) → k ≤ s → get_or (flags k n) s true ≡ true
unfolding flags
flag_past zero n s h = refl
flag_past (suc k) n zero h = absurd (omega (arith, h))
flag_past (suc k) n (suc s) h = flag_past k (n / 2) s (omega (arith, h))

-- ---- of two numbers

less : (x y : ℕ) → x < 2 → y < 2 → (min x y == 1) ≡ (x == 1 && y == 1)
less zero zero a b = refl
less zero (suc zero) a b = refl
less zero (suc (suc y)) a b = absurd (omega (arith, b))
less (suc zero) zero a b = refl
less (suc zero) (suc zero) a b = refl
less (suc zero) (suc (suc y)) a b = absurd (omega (arith, b))
less (suc (suc x)) y a b = absurd (omega (arith, a))

more : (x y : ℕ) → x < 2 → y < 2 → (max x y == 1) ≡ (x == 1 || y == 1)
more zero zero a b = refl
more zero (suc zero) a b = refl
more zero (suc (suc y)) a b = absurd (omega (arith, b))
more (suc zero) zero a b = refl
more (suc zero) (suc zero) a b = refl
more (suc zero) (suc (suc y)) a b = absurd (omega (arith, b))
more (suc (suc x)) y a b = absurd (omega (arith, a))

pub marked_and : (a b s : ℕ) → has_mark (bit_and a b) s ≡ (has_mark a s && has_mark b s)
marked_and a b s = ap (λ z. z == 1) (bit_at_and a b s) ∙ less (bit_at a s) (bit_at b s) (bit_at-lt a s) (bit_at-lt b s)

pub marked_or : (a b s : ℕ) → has_mark (bit_or a b) s ≡ (has_mark a s || has_mark b s)
marked_or a b s = ap (λ z. z == 1) (bit_at_or a b s) ∙ more (bit_at a s) (bit_at b s) (bit_at-lt a s) (bit_at-lt b s)

pub flags_and : (k a b s : ℕ) → get_or (flags k (bit_and a b)) s true ≡ (get_or (flags k a) s true && get_or (flags k b) s true)
flags_and k a b s = elim (cases_lt s k) [
  | inl low ↦ flag_is k (bit_and a b) s low ∙ marked_and a b s ∙ sym (λ i. flag_is k a s low i && flag_is k b s low i)
  | inr high ↦ flag_past k (bit_and a b) s high ∙ sym (λ i. flag_past k a s high i && flag_past k b s high i)
]

pub flags_or : (k a b s : ℕ) → get_or (flags k (bit_or a b)) s true ≡ (get_or (flags k a) s true || get_or (flags k b) s true)
flags_or k a b s = elim (cases_lt s k) [
  | inl low ↦ flag_is k (bit_or a b) s low ∙ marked_or a b s ∙ sym (λ i. flag_is k a s low i || flag_is k b s low i)
  | inr high ↦ flag_past k (bit_or a b) s high ∙ sym (λ i. flag_past k a s high i || flag_past k b s high i)
]

-- ---- with other bits

pub flags_all : (s : ℕ) → get_or (flags 64 18446744073709551615) s true ≡ true
flags_all s = elim (cases_lt s 64) [
  | inl low ↦ flag_is 64 18446744073709551615 s low ∙ ap (λ z. z == 1) (bit_at_ones 64 s low)
  | inr high ↦ flag_past 64 18446744073709551615 s high
]

or_false : (b : Bool) → (b || false) ≡ b
or_false true = refl
or_false false = refl

or_true : (b : Bool) → (b || true) ≡ true
or_true true = refl
or_true false = refl

-- all bits from one on
abbrev pub from_bit : ℕ → ℕ
from_bit end = 18446744073709551615 * 2 ^ end % 18446744073709551616

pub marked_below : (marks end s : ℕ) → end ≤ 64 → s < end → get_or (flags 64 (bit_or marks (from_bit end))) s true ≡ has_mark marks s
marked_below marks end s few low =
    flag_is 64 (bit_or marks (from_bit end)) s (omega (arith, few, low)) ∙ marked_or marks (from_bit end) s
    ∙ ap (λ z. has_mark marks s || bit_at z s == 1) (ones_shl 64 end few)
    ∙ ap (λ z. has_mark marks s || z == 1) (bit_at_mask_below end 64 s low)
    ∙ or_false (has_mark marks s)

pub marked_from : (marks end s : ℕ) → end ≤ 64 → end ≤ s → get_or (flags 64 (bit_or marks (from_bit end))) s true ≡ true
marked_from marks end s few from = elim (cases_lt s 64) [
  | inl low ↦ flag_is 64 (bit_or marks (from_bit end)) s low ∙ marked_or marks (from_bit end) s
      ∙ ap (λ z. has_mark marks s || bit_at z s == 1) (ones_shl 64 end few)
      ∙ ap (λ z. has_mark marks s || z == 1) (bit_at_mask_inside end 64 s from low)
      ∙ or_true (has_mark marks s)
  | inr high ↦ flag_past 64 (bit_or marks (from_bit end)) s high
]

pub or_small : (a b : ℕ) → a < 18446744073709551616 → b < 18446744073709551616 → bit_or a b < 18446744073709551616
or_small a b x y = or_lt 64 a b x y

-- the number without one bit
abbrev pub without : ℕ → ℕ → ℕ
without n k = bit_and n (bit_not w64 (1 * 2 ^ k % 2 ^ 64))

pub flag_out : (n k : ℕ) → k < 64 → get_or (flags 64 (without n k)) k true ≡ false
flag_out n k low = flag_is 64 (without n k) k low ∙ ap (λ z. z == 1) (bit_at_clear_same w64 n k low)

pub flag_other : (n k s : ℕ) → k < 64 → s ≢ k → get_or (flags 64 (without n k)) s true ≡ get_or (flags 64 n) s true
flag_other n k s low ne = elim (cases_lt s 64) [
  | inl small ↦ flag_is 64 (without n k) s small ∙ ap (λ z. z == 1) (bit_at_clear_other w64 n k low s small ne) ∙ sym (flag_is 64 n s small)
  | inr high ↦ flag_past 64 (without n k) s high ∙ sym (flag_past 64 n s high)
]
