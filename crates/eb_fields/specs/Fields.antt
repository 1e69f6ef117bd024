-- The fields of documents: their names, and the terms of their values. Text is its UTF-8 bytes: 44
-- is the comma, 58 the colon and 95 the underscore.
use Rattle.std.specs.Prelude.{ℕ, nat_le, eqb, ◌&&◌, ◌||◌, not, Bool, true, if◌then◌else◌, List, [], ◌∷◌, ◌++◌, length, codes, Option}
use Rattle.std.specs.Prelude.{Some, None, option_map}
use Rattle.std.specs.List.{list_all, list_any, starts_with, slice_split}
use Rattle.std.specs.Str.{bytes_eq}
use Rattle.eb_text.specs.Tokens.{folded}
use Rattle.eb_fields.specs.declared.fields.Fields.{Fields}

-- the most names, the most bytes of a name, and the most bytes of a value under case folding
abbrev pub most_names : ℕ
most_names = 8

abbrev pub most_name_bytes : ℕ
most_name_bytes = 32

abbrev pub most_value_bytes : ℕ
most_value_bytes = 128

-- a small letter of ASCII, a digit or an underscore
abbrev pub is_name_byte : ℕ → Bool
is_name_byte b = (nat_le 97 b && nat_le b 122) || (nat_le 48 b && nat_le b 57) || eqb b 95

-- one to 32 of these, and not `since`, by which a query asks for ids
abbrev pub is_name : List ℕ → Bool
is_name name =
    (nat_le 1 (length name) && nat_le (length name) most_name_bytes) && (list_all is_name_byte name && not (bytes_eq name (codes "since")))

-- none occurs twice
abbrev pub are_distinct : List (List ℕ) → Bool
are_distinct [] = true
are_distinct (name ∷ names) = not (list_any (bytes_eq name) names) && are_distinct names

-- one to eight names, none of them twice
abbrev pub are_names : List (List ℕ) → Bool
are_names names = (nat_le 1 (length names) && nat_le (length names) most_names) && (list_all is_name names && are_distinct names)

-- a comma
abbrev pub is_comma : ℕ → Bool
is_comma b = eqb b 44

-- the texts between the commas of the words, in order
abbrev pub names_in : List ℕ → List (List ℕ)
names_in words = slice_split is_comma words

-- the words are names with commas between
abbrev pub is_field_list : List ℕ → Bool
is_field_list words = are_names (names_in words)

-- the names of words, where there are words
abbrev pub names_of : Option (List ℕ) → List (List ℕ)
names_of None = []
names_of (Some words) = names_in words

-- the names of these fields, in order
abbrev pub names : Fields → List (List ℕ)
names fields = names_of (option_map (λ words. words.now) fields.words)

-- the first of these names that the text begins with, a colon right after it
abbrev pub begun_name : List (List ℕ) → List ℕ → Option (List ℕ)
begun_name [] text = None
begun_name (name ∷ names) text = if starts_with eqb text (name ++ 58 ∷ []) then Some name else begun_name names text

-- The term of a field's value: the byte 255, which is in no UTF-8 and so in no token of a text, the
-- name, a colon and the whole value under case folding.
abbrev pub field_term : List ℕ → List ℕ → List ℕ
field_term name value = 255 ∷ name ++ 58 ∷ folded value
