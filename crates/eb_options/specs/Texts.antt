-- An option with a text among the words of a command. Its name is without its dashes.
use Rattle.std.specs.Prelude.{ℕ, Bool, true, false, List, [], ◌∷◌, ◌++◌, Option, Some, None, if◌then◌else◌, option_map}
use Rattle.std.specs.Option.{option_map_or}
use Rattle.std.specs.Str.{bytes_eq}
use Rattle.eb_options.specs.Items.{dashed, is_one_of, name_in, value_in}

-- the text, if the option is there, and the other words in order
pub record Apart : Type 0 where
  pub text : Option (List ℕ)
  pub others : List (List ℕ)

-- what a word says of the option: nothing where it is another; and else the value in it, if there
-- is one
abbrev pub value_of : List ℕ → List ℕ → Option (Option (List ℕ))
value_of name word = if bytes_eq (name_in word) (dashed name) then Some (value_in word) else None

-- the value in the word or else the next one, and the words after it
abbrev pub taken_value : Option (List ℕ) → List (List ℕ) → Option Apart
taken_value (Some value) rest = Some (record { text = Some value; others = rest })
taken_value None [] = None
taken_value None (value ∷ rest) = Some (record { text = Some value; others = rest })

-- the same with more words before them
abbrev pub behind : List (List ℕ) → Option Apart → Option Apart
behind words apart = option_map (λ (a : Apart). record { text = a.text; others = words ++ a.others }) apart

-- the first item `--x V` or `--x=V` of the name, and the words without it; the first word may be
-- the value of an option before it, and is then no item
unfoldable pub text_from : List ℕ → List (List ℕ) → Bool → List (List ℕ) → Option Apart
text_from name options waits [] = Some (record { text = None; others = [] })
text_from name options true (word ∷ rest) = behind (word ∷ []) (text_from name options false rest)
text_from name options false (word ∷ rest) =
    option_map_or (λ value. taken_value value rest) (value_of name word) (behind (word ∷ []) (text_from name options (is_one_of options word) rest))

abbrev pub text_apart : List ℕ → List (List ℕ) → List (List ℕ) → Option Apart
text_apart name options words = text_from name options false words
