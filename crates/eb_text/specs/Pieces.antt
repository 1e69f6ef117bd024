-- The tokens of a text where words are cut further, at the marks in them.
use Rattle.std.specs.Prelude.{ℕ, nat_lt, ◌&&◌, not, Bool, true, false, List, [], ◌∷◌, flat_map}
use Rattle.std.specs.List.{filter, slice_split}
use Rattle.std.specs.Char.{is_ascii_alphanumeric}
use Rattle.eb_text.specs.Tokens.{tokens_of}
use Rattle.eb_text.specs.declared.cutting.Cut.{Cut}
use Rattle.eb_text.specs.declared.cutting.Cut.TheVariants.{Words, Pieces}

-- a character of ASCII that is neither a letter nor a digit
abbrev pub is_mark : ℕ → Bool
is_mark b = nat_lt b 128 && not (is_ascii_alphanumeric b)

abbrev pub has_byte : List ℕ → Bool
has_byte [] = false
has_byte (b ∷ bs) = true

-- the runs between the marks of a token that aren't empty
abbrev pub pieces : List ℕ → List (List ℕ)
pieces token = filter has_byte (slice_split is_mark token)

-- these tokens, each whole or in pieces
abbrev pub in_cut : Cut → List (List ℕ) → List (List ℕ)
in_cut Words tokens = tokens
in_cut Pieces tokens = flat_map pieces tokens

-- the tokens of the text, each whole or in pieces
abbrev pub tokens_by : Cut → List ℕ → List (List ℕ)
tokens_by cut text = in_cut cut (tokens_of text)
