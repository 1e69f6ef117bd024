-- Decimal numbers as texts.
use Rattle.std.proofs.Common.{◌≡◌, ℕ, suc, ◌<◌, ◌≤◌, ◌^◌, ◌||◌, Bool, true, false, List, [], ◌∷◌, ◌++◌, length, take, drop, refl, ap, arith, rules, le-ltb, ltb-false, decimal}
use Rattle.std.proofs.lemmas.Fmt.{digits_decimal, digits_value-decimal, decimal_nonempty, length-decimal-le}
use Rattle.std.proofs.lemmas.Str.Parse.{IsNumeralModel, IsDigitsTest, numerals_by_fold}
use Rattle.std.specs.Int.{IsInRange}
use Rattle.std.specs.List.{AllByRecursion, position_or_len}
use Rattle.eb_fields.specs.Digits.{is_no_digit, decimal_after}

or_false : (a b : Bool) → (a || b) ≡ false → (a ≡ false) × (b ≡ false)
or_false true b h = cc
or_false false b h = (refl, h)

pub in_range : (c : ℕ) → is_no_digit c ≡ false → IsInRange 48 57 c
in_range c h = let p = or_false _ _ h in let low = ltb-false _ _ p.0 in let high = ltb-false _ _ p.1 in (low, high)

digit : (c : ℕ) → IsInRange 48 57 c → is_no_digit c ≡ false
digit c r = let low = r.0 in let high = r.1 in rw (le-ltb c 48 low, le-ltb 57 c high) refl

-- each byte is a digit
abbrev pub AreDigits : List ℕ → Type 0
AreDigits ds = AllByRecursion (λ d. is_no_digit d ≡ false) ds

digits_test : IsDigitsTest (λ ds. AreDigits ds)
digits_test = record { empty = tt; parts = λ c cs h. (in_range c h.0, h.1); more = λ c cs r h. (digit c r, h) }

pub own : IsNumeralModel (λ ds. AreDigits ds) (decimal_after 0)
own = numerals_by_fold _ digits_test decimal_after (search rules)

-- one to k digits of this value
pub record IsDecimal (k n : ℕ) (ds : List ℕ) : Type 0 where
  pub digits : AreDigits ds
  pub some : 1 ≤ length ds
  pub few : length ds ≤ k
  pub value : decimal_after 0 ds ≡ n

pub decimal_is : (k n : ℕ) → 0 < k → n < 10 ^ k → n < 2 ^ 64 → IsDecimal k n (decimal n)
decimal_is k n some few small = record {
  digits = digits_decimal own n small;
  some = decimal_nonempty n small;
  few = length-decimal-le k n some few small;
  value = digits_value-decimal own n small;
}

-- digits, and something else after them
pub digits_first : (ds rest : List ℕ) → AreDigits ds → position_or_len is_no_digit rest ≡ 0 → position_or_len is_no_digit (ds ++ rest) ≡ length ds
digits_first [] rest h e = e
digits_first (d ∷ ds) rest h e = rw (h.0, digits_first ds rest h.1 e) (omega arith)

-- digits alone
pub digits_all : (ds : List ℕ) → AreDigits ds → position_or_len is_no_digit ds ≡ length ds
digits_all [] h = refl
digits_all (d ∷ ds) h = rw (h.0, digits_all ds h.1) (omega arith)

-- and back: nothing but digits
pub all_digits : (ds : List ℕ) → length ds ≤ position_or_len is_no_digit ds → AreDigits ds
all_digits [] h = tt
all_digits (d ∷ ds) h = go (λ g. all_digits ds g) (is_no_digit d) refl
  where
    go : (length ds ≤ position_or_len is_no_digit ds → AreDigits ds) → (b : Bool) → is_no_digit d ≡ b → AreDigits (d ∷ ds)
    go more true e = let none : position_or_len is_no_digit (d ∷ ds) ≡ 0 = rw e refl in absurd (omega arith)
    go more false e = let one : position_or_len is_no_digit (d ∷ ds) ≡ suc (position_or_len is_no_digit ds) = rw e (omega arith) in (e, more (omega arith))

pub front_taken : (xs ys : List ℕ) → take (length xs) (xs ++ ys) ≡ xs
front_taken [] ys = refl
front_taken (x ∷ xs) ys = ap (λ (zs : List ℕ). x ∷ zs) (front_taken xs ys)

pub front_dropped : (xs ys : List ℕ) → drop (length xs) (xs ++ ys) ≡ ys
front_dropped [] ys = refl
front_dropped (x ∷ xs) ys = front_dropped xs ys
