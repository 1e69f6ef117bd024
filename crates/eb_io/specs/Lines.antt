-- The lines of a text.
use Rattle.std.specs.Prelude.{◌≡◌, ◌≢◌, ℕ, ◌^◌, ◌+◌, ◌<◌, Bool, ◌==◌, ◌⊎◌, List, [], ◌∷◌, ◌++◌, length, take, drop, map, nat_lt, if◌then◌else◌, Option, MatchOption}
use Rattle.std.specs.List.{All}
use Rattle.std.specs.Io.BufRead.{strip_last}

-- the byte comes before the first piece; where there is no piece, it is one
abbrev pub begun_by : ℕ → List (List ℕ) → List (List ℕ)
begun_by b [] = (b ∷ []) ∷ []
begun_by b (p ∷ ps) = (b ∷ p) ∷ ps

-- the bytes cut at each LF, which is in no piece; bytes after the last LF are a piece too, where
-- there is at least one
abbrev pub pieces : List ℕ → List (List ℕ)
pieces [] = []
pieces (b ∷ bs) = if b == 10 then [] ∷ pieces bs else begun_by b (pieces bs)

-- the byte comes before the first piece, where there is one
abbrev pub before_first_piece : ℕ → List (List ℕ) → List (List ℕ)
before_first_piece b [] = []
before_first_piece b (p ∷ ps) = (b ∷ p) ∷ ps

-- those of the pieces that a LF ends
abbrev pub whole_pieces : List ℕ → List (List ℕ)
whole_pieces [] = []
whole_pieces (b ∷ bs) = if b == 10 then [] ∷ whole_pieces bs else before_first_piece b (whole_pieces bs)

-- a line: its bytes, or only that it is a long one
pub data Line : Type 0 where
  line : List ℕ → Line
  long_line : Line

-- the most bytes of a line, its LF not counted
abbrev pub longest_line : ℕ
longest_line = 65536

-- the limit of an input: it has to end before it has this many bytes
abbrev pub longest_input : ℕ
longest_input = 2 ^ 40

-- these are more bytes than a line may have
abbrev pub are_too_many : List ℕ → Bool
are_too_many bytes = nat_lt longest_line (length bytes)

-- the line without one CR at its end
abbrev pub without_cr : List ℕ → List ℕ
without_cr = strip_last 13

-- the line that a piece is
abbrev pub line_from : List ℕ → Line
line_from piece = if are_too_many piece then long_line else line (without_cr piece)

-- the lines of the bytes, in order
abbrev pub lines_of : List ℕ → List Line
lines_of bytes = map line_from (pieces bytes)

-- those of the lines that a LF ends
abbrev pub whole_lines : List ℕ → List Line
whole_lines bytes = map line_from (whole_pieces bytes)

-- none of the bytes is a LF
abbrev pub IsUncut : List ℕ → Type 0
IsUncut = All (λ b. b ≢ 10)

-- the first LF of the bytes is at this place
pub record IsFirstLf (bytes : List ℕ) (place : ℕ) : Type 0 where
  pub within : place < length bytes
  pub uncut : IsUncut (take place bytes)
  pub cut : bytes ≡ take place bytes ++ 10 ∷ drop (place + 1) bytes

-- where the first line of the bytes ends: the place of their first LF, or none where there is none
abbrev pub IsEnd : List ℕ → Option ℕ → Type 0
IsEnd bytes end = MatchOption end (IsUncut bytes) (IsFirstLf bytes)

-- the bytes are whole lines: there are none, or the last is a LF
abbrev pub AreWhole : List ℕ → Type 0
AreWhole bytes = (bytes ≡ []) ⊎ ((front : List ℕ) × (bytes ≡ front ++ 10 ∷ []))
