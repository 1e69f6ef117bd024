-- What is held between two calls for a line, and which lines have been given.
use Rattle.std.specs.Prelude.{◌≡◌, ℕ, ◌<◌, ◌⊎◌, Bool, true, false, List, [], ◌∷◌, ◌++◌, length, if◌then◌else◌}
use Rattle.eb_io.specs.declared.lines.Next.{Next}
use Rattle.eb_io.specs.declared.lines.Next.TheVariants.{Line as ALine, LongLine, End, ReadFault, InputTooLong}
use Rattle.eb_io.specs.Lines.{Line, line, long_line, are_too_many, lines_of, whole_lines, IsUncut, AreWhole}

-- what is kept of a line that has begun: its bytes, or only that they are too many
pub record Part : Type 0 where
  pub is_long : Bool
  pub bytes : List ℕ

-- what is kept of a line that began with these bytes
abbrev pub kept_part : List ℕ → Part
kept_part bytes =
    if are_too_many bytes then record { is_long = true; bytes = [] }
    else record { is_long = false; bytes = bytes }

-- nothing of a line
abbrev pub no_part : Part
no_part = record { is_long = false; bytes = [] }

-- the state of `Lines` between two calls
pub record Held : Type 0 where
  -- what is kept of the line that comes next, and the bytes that were taken after it
  pub part : Part
  pub rest : List ℕ
  -- the line that was given last
  pub line : List ℕ
  -- whether the end of the source was met
  pub is_ended : Bool
  -- how many bytes were taken, and how many may be
  pub taken : ℕ
  pub limit : ℕ

-- the end was met, and nothing is left of what was taken
pub record IsDone (begun : List ℕ) (held : Held) : Type 0 where
  pub ended : held.is_ended ≡ true
  pub none : begun ≡ []
  pub rest : held.rest ≡ []

-- of the bytes taken in all, these lines were given, and the rest is held
pub record HasGiven (taken : List ℕ) (given : List Line) (held : Held) : Type 0 where
  -- the bytes of the lines given, then those that are kept of the next line, then the rest
  pub front : List ℕ
  pub begun : List ℕ
  pub bytes : taken ≡ front ++ (begun ++ held.rest)
  pub lines : lines_of front ≡ given
  pub uncut : IsUncut begun
  pub part : held.part ≡ kept_part begun
  -- a LF ends the last line given, or else the end of the source did
  pub whole : AreWhole front ⊎ IsDone begun held
  pub count : held.taken ≡ length taken

-- all whole lines of the bytes taken were given, and the end of the source wasn't met
pub record HasNoLine (taken : List ℕ) (given : List Line) (held : Held) : Type 0 where
  pub has : HasGiven taken given held
  pub whole : whole_lines taken ≡ given
  pub open_end : held.is_ended ≡ false

-- all lines of the bytes taken were given, and the end of the source was met
pub record HasAllLines (taken : List ℕ) (given : List Line) (held : Held) : Type 0 where
  pub has : HasGiven taken given held
  pub all : lines_of taken ≡ given
  pub ended : held.is_ended ≡ true

-- what an answer says, where these bytes are taken by now and these lines were given before it
--   Line, LongLine: one more line is given; End: all are, with fewer bytes taken than may be;
--   ReadFault, InputTooLong: all whole ones are, with fewer bytes taken than may be, or as many
abbrev pub Tells : Next → List ℕ → List Line → Held → Type 0
Tells ALine taken given held = HasGiven taken (given ++ line held.line ∷ []) held
Tells LongLine taken given held = HasGiven taken (given ++ long_line ∷ []) held
Tells End taken given held = HasAllLines taken given held × (length taken < held.limit)
Tells ReadFault taken given held = HasNoLine taken given held × (length taken < held.limit)
Tells InputTooLong taken given held = HasNoLine taken given held × (length taken ≡ held.limit)

-- the answer gives the line, with these bytes where it isn't a long one
abbrev pub GivesLine : Next → List ℕ → Line → Type 0
GivesLine ALine bytes l = l ≡ line bytes
GivesLine LongLine bytes l = l ≡ long_line
GivesLine End bytes l = ⊥
GivesLine ReadFault bytes l = ⊥
GivesLine InputTooLong bytes l = ⊥
