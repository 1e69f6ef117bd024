-- Decimal digits, as bytes: 48 is `0`, and 57 is `9`.
use Rattle.std.specs.Prelude.{ℕ, ◌+◌, ◌-◌, ◌*◌, nat_lt, ◌||◌, Bool, List, [], ◌∷◌}

-- the byte is no ASCII digit
abbrev pub is_no_digit : ℕ → Bool
is_no_digit b = nat_lt b 48 || nat_lt 57 b

-- the value of decimal digits, after digits of the value n
abbrev pub decimal_after : ℕ → List ℕ → ℕ
decimal_after n [] = n
decimal_after n (d ∷ ds) = decimal_after (10 * n + (d - 48)) ds
