-- The tokens of a text, as documents and queries are cut into them.
use Rattle.std.specs.Prelude.{ℕ, ◌<◌, ◌⊎◌, List, map, chars, encode_utf8_all}
use Rattle.unicode_segmentation.specs.Word.{words}
use Rattle.caseless.specs.Caseless.{default_case_fold}

-- the text under the default case folding of Unicode, which maps each character on its own; text
-- here and below is its UTF-8 bytes
abbrev pub folded : List ℕ → List ℕ
folded text = encode_utf8_all (default_case_fold (chars text))

-- a byte of ASCII that is no capital letter
pub record IsFoldedByte (b : ℕ) : Type 0 where
  pub ascii : b < 128
  pub small : (b < 65) ⊎ (90 < b)

-- the words of the text in order, each folded: the pieces between the word boundaries of UAX #29
-- that have a letter or a number
abbrev pub tokens_of : List ℕ → List (List ℕ)
tokens_of text = map folded (words text)
