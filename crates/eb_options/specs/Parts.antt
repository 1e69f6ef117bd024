-- The words of a command as they are read, one after the other.
use Rattle.std.specs.Prelude.{◌≡◌, ℕ, Bool, true, List, [], ◌∷◌, ◌++◌, Option, map, option_map}
use Rattle.std.specs.List.{list_all}
use Rattle.eb_options.specs.Items.{Parts, Value, is_one_of}

-- those read before, and then the parts of further words
abbrev pub in_front : Parts → Option Parts → Option Parts
in_front done further = option_map (λ (p : Parts). record { flags = done.flags ++ p.flags; values = done.values ++ p.values }) further

abbrev pub with_flag_last : Parts → List ℕ → Parts
with_flag_last parts word = record parts { flags = parts.flags ++ word ∷ [] }

abbrev pub with_value_last : Parts → Value → Parts
with_value_last parts value = record parts { values = parts.values ++ value ∷ [] }

-- an option and its value as one word, `--x=V`
abbrev pub word_of : Value → List ℕ
word_of value = value.0 ++ 61 ∷ value.1

-- each value is of one of the options
abbrev pub are_options : List (List ℕ) → List Value → Bool
are_options options values = list_all (λ value. is_one_of options value.0) values

-- the words are those of the values, and each of these is of one of the options
abbrev pub AreWordsOf : List (List ℕ) → List Value → List (List ℕ) → Type 0
AreWordsOf options values words = (are_options options values ≡ true) × (map word_of values ≡ words)
