-- Where the words of a text can be found part by part.
use Rattle.std.specs.Prelude.{◌≡◌, ◌≢◌, ℕ, ◌+◌, ◌-◌, ◌<◌, List, length, slice_index, IsTrue}
use Rattle.std.specs.List.{All}
use Rattle.std.specs.Char.{is_ascii_alphanumeric}

-- a letter or a digit of ASCII
abbrev pub IsAlphanumeric : ℕ → Type 0
IsAlphanumeric b = IsTrue (is_ascii_alphanumeric b)

-- a text of letters and digits of ASCII alone, of at least one
abbrev pub IsPlain : List ℕ → Type 0
IsPlain text = (0 < length text) × All IsAlphanumeric text

-- a space (32) is at this place of the text, after a byte of ASCII that is no space, and before a
-- letter or a digit of ASCII
pub record IsParting (text : List ℕ) (at : ℕ) : Type 0 where
  pub space : slice_index text at ≡ 32
  pub within : (0 < at) × (at + 1 < length text)
  pub ascii : slice_index text (at - 1) < 128
  pub other : slice_index text (at - 1) ≢ 32
  pub behind : IsAlphanumeric (slice_index text (at + 1))
