-- The number of a line, which follows its first byte.
use Rattle.std.specs.Prelude.{◌≡◌, ℕ, ◌+◌, ◌≤◌, Bool, true, List, [], ◌∷◌, take, drop}
use Rattle.std.specs.List.{position_or_len}
use Rattle.eb_fields.specs.Dialect.{Dialect}
use Rattle.eb_fields.specs.Digits.{is_no_digit, decimal_after}
use Rattle.eb_query.specs.Lexemes.{Placed, is_blank, lexemes}
use Rattle.eb_base.specs.Match.{most_matches}

-- how many digits follow the first byte
unfoldable pub digits_len : List ℕ → ℕ
digits_len line = position_or_len is_no_digit (drop 1 line)

-- the value of those digits
unfoldable pub number_in_line : List ℕ → ℕ
number_in_line line = decimal_after 0 (take (digits_len line) (drop 1 line))

-- a blank comes first, or there is no byte
abbrev pub is_blank_or_end : List ℕ → Bool
is_blank_or_end [] = true
is_blank_or_end (b ∷ bs) = is_blank b

-- a digit and at most `most_digits` of them, of a value that isn't over the most, and after them a
-- blank or the end
pub record HasNumberUpTo (most_digits most : ℕ) (line : List ℕ) : Type 0 where
  pub some : 1 ≤ digits_len line
  pub few : digits_len line ≤ most_digits
  pub within : number_in_line line ≤ most
  pub apart : is_blank_or_end (drop (1 + digits_len line) line) ≡ true

-- the number of a query line: one to four digits of a value from 1 to the most matches
pub record HasQueryNumber (line : List ℕ) : Type 0 where
  pub up_to : HasNumberUpTo 4 most_matches line
  pub positive : 1 ≤ number_in_line line

-- the number of a watch line: one to ten digits of a value that 32 bits hold
abbrev pub HasWatchNumber : List ℕ → Type 0
HasWatchNumber line = HasNumberUpTo 10 4294967295 line

-- the lexemes of the query text, which is all after the digits, by the dialect
unfoldable pub lexemes_of_line : Dialect → List ℕ → List Placed
lexemes_of_line how line = lexemes how 0 (2 + digits_len line) (drop (1 + digits_len line) line)
