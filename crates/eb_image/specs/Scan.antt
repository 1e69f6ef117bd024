-- The shortest that bytes can begin. Missing bytes count as 0.
use Rattle.std.specs.Prelude.{◌≡◌, ℕ, zero, suc, ◌+◌, ◌*◌, ◌≤◌, List, [], ◌∷◌, length, slice_index}
use Rattle.std.specs.List.{All, flat_map}
use Rattle.eb_base.specs.Term.{AreBytes}
use Rattle.eb_base.specs.Document.{bytes_of, most_tokens, most_bytes}
use Rattle.eb_image.specs.Image.{IsFront, term_bytes}
use Rattle.eb_image.specs.Reading.{IsNextPart}

-- the most bytes of a part: those before its terms, and two and its own for each term
abbrev pub longest_part : ℕ
longest_part = 11 + 2 * most_tokens + most_bytes

-- the number in the two bytes at this place
abbrev pub two_byte_number : List ℕ → ℕ → ℕ
two_byte_number bytes at = 256 * slice_index bytes at + slice_index bytes (at + 1)

-- n bytes from this place on, and 0 for each that is missing
abbrev pub byte_window : List ℕ → ℕ → ℕ → List ℕ
byte_window bytes at zero = []
byte_window bytes at (suc n) = slice_index bytes at ∷ byte_window bytes (at + 1) n

-- from this place to the end there are n terms, of at most as many bytes as there is room for
pub record HasTerms (bytes : List ℕ) (n at room end : ℕ) : Type 0 where
  pub terms : List (List ℕ)
  pub count : length terms ≡ n
  pub within : bytes_of terms ≤ room
  pub are : All AreBytes terms
  pub len : ℕ
  pub ends : end ≡ at + len
  pub stand : flat_map term_bytes terms ≡ byte_window bytes at len

-- the shortest part, or byte 0, that the bytes begin has this length
pub record IsShortest (bytes : List ℕ) (n : ℕ) : Type 0 where
  pub whole : List ℕ
  pub next : IsNextPart whole
  pub front : IsFront bytes whole
  pub len : length whole ≡ n
  pub least : (other : List ℕ) → IsNextPart other → IsFront bytes other → n ≤ length other
