-- What words say in which flags and options with numbers are in any order. Names are without their
-- dashes.
use Rattle.std.specs.Prelude.{◌≡◌, ℕ, ◌&&◌, ◌==◌, Bool, true, false, not, List, [], ◌∷◌, map, find, length, nat_lt, Option, Some, None}
use Rattle.std.specs.Prelude.{if◌then◌else◌, option_map, option_and_then}
use Rattle.std.specs.Borrow.{Bor}
use Rattle.std.specs.List.{filter, list_all, list_any, before_first, after_first}
use Rattle.std.specs.Option.{option_map_or}
use Rattle.std.specs.Str.{bytes_eq}
use Rattle.eb_options.specs.Numbers.{number}

-- ---- names

-- the texts after references
abbrev pub texts : List (Bor (List ℕ)) → List (List ℕ)
texts names = map (λ name. name.now) names

-- `=`
abbrev pub is_equals : ℕ → Bool
is_equals b = b == 61

-- a name of an option: not empty, and without `=`
abbrev pub is_name : List ℕ → Bool
is_name name = nat_lt 0 (length name) && not (list_any is_equals name)

abbrev pub AreNames : List (List ℕ) → Type 0
AreNames names = list_all is_name names ≡ true

-- the name as a word: with `--` before it
abbrev pub dashed : List ℕ → List ℕ
dashed name = 45 ∷ 45 ∷ name

-- the word is one of these names
abbrev pub is_one_of : List (List ℕ) → List ℕ → Bool
is_one_of names word = list_any (λ name. bytes_eq word (dashed name)) names

-- what comes before the first `=` of a word
abbrev pub name_in : List ℕ → List ℕ
name_in word = before_first is_equals word

-- what comes after the first `=` of a word, if it has one
abbrev pub value_in : List ℕ → Option (List ℕ)
value_in word = if list_any is_equals word then Some (after_first is_equals word) else None

-- ---- words

-- an option, as a word, and the text of its value
abbrev pub Value : Type 0
Value = List ℕ × List ℕ

-- the flags, as words, and the values, both in the order of the words
pub record Parts : Type 0 where
  pub flags : List (List ℕ)
  pub values : List Value

abbrev pub with_flag : List ℕ → Parts → Parts
with_flag word parts = record parts { flags = word ∷ parts.flags }

abbrev pub with_option : Value → Parts → Parts
with_option value parts = record parts { values = value ∷ parts.values }

-- the words as flags and values, each `--x` for a flag, and `--x V` or `--x=V` for an option, in
-- any order; the option before them, if any, waits for its value
unfoldable pub flags_and_values : List (List ℕ) → List (List ℕ) → Option (List ℕ) → List (List ℕ) → Option Parts
flags_and_values flags options None [] = Some (record { flags = []; values = [] })
flags_and_values flags options None (word ∷ rest) =
    if is_one_of flags word then option_map (with_flag word) (flags_and_values flags options None rest)
    else (if is_one_of options (name_in word)
    then option_map_or (λ value. option_map (with_option (name_in word, value)) (flags_and_values flags options None rest)) (value_in word)
    (flags_and_values flags options (Some (name_in word)) rest)
    else None)
flags_and_values flags options (Some name) [] = None
flags_and_values flags options (Some name) (value ∷ rest) = option_map (with_option (name, value)) (flags_and_values flags options None rest)

-- ---- items

-- each flag, and whether it is there; each option, and its number, if it is there
pub record Items : Type 0 where
  pub flags : List (List ℕ × Bool)
  pub numbers : List (List ℕ × Option ℕ)

-- whether there are such words, at most one
abbrev pub at_most_once : List (List ℕ) → Option Bool
at_most_once [] = Some false
at_most_once (word ∷ []) = Some true
at_most_once (word ∷ other ∷ more) = None

-- whether the flag is among the words, at most once
abbrev pub flag_in : List (List ℕ) → List ℕ → Option Bool
flag_in words flag = at_most_once (filter (λ word. bytes_eq word (dashed flag)) words)

-- the number, if there is a value, that these values of one option give, at most one; one to nine
-- digits
abbrev pub one_number : List Value → Option (Option ℕ)
one_number [] = Some None
one_number (value ∷ []) = option_map (λ n. Some n) (number 9 value.1)
one_number (value ∷ other ∷ more) = None

-- the number of the option, if it has a value
abbrev pub number_in : List Value → List ℕ → Option (Option ℕ)
number_in values option = one_number (filter (λ value. bytes_eq value.0 (dashed option)) values)

-- each name with what is found for it, if that is found for all
unfoldable pub with_each : {A : Type 0} → (List ℕ → Option A) → List (List ℕ) → Option (List (List ℕ × A))
with_each found [] = Some []
with_each found (name ∷ names) = option_and_then (λ this. option_map (λ more. (name, this) ∷ more) (with_each found names)) (found name)

-- the items that the words are, for a command with these flags and options: each at most once, and
-- each option with a number of one to nine digits
abbrev pub items_of : List (List ℕ) → List (List ℕ) → List (List ℕ) → Option Items
items_of flags options words = option_and_then (λ parts. option_and_then (λ there. option_map (λ numbers. record { flags = there; numbers = numbers })
    (with_each (number_in parts.values) options)) (with_each (flag_in parts.flags) flags)) (flags_and_values flags options None words)

-- the flag is there
abbrev pub has : List ℕ → Items → Bool
has flag items = list_any (λ this. bytes_eq this.0 flag && this.1) items.flags

-- the number of the option, if it is there
abbrev pub option_number : List ℕ → Items → Option ℕ
option_number option items = option_and_then (λ this. this.1) (find (λ this. bytes_eq this.0 option) items.numbers)
