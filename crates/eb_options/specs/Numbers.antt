-- The numbers that words write.
use Rattle.std.specs.Prelude.{ℕ, ◌&&◌, Bool, List, Option, Some, None, ◌^◌, length, nat_le, nat_lt, if◌then◌else◌}
use Rattle.std.specs.List.{list_all}
use Rattle.std.specs.Str.Parse.{digits_value}

-- `0` to `9`
abbrev pub is_digit : ℕ → Bool
is_digit b = nat_le 48 b && nat_le b 57

-- one to `most` digits
abbrev pub are_digits : ℕ → List ℕ → Bool
are_digits most word = nat_le 1 (length word) && (nat_le (length word) most && list_all is_digit word)

-- the number that a word of one to `most` digits writes, if 64 bits hold it
abbrev pub number : ℕ → List ℕ → Option ℕ
number most word = if are_digits most word && nat_lt (digits_value 10 word) (2 ^ 64) then Some (digits_value 10 word) else None
