-- What a program over lines wrote of the bytes of an input, and what its status says of them. What
-- some lines print, with and without the end of the input, and whether any of them is refused, is
-- the program's own.
use Rattle.std.specs.Prelude.{◌≡◌, ℕ, ◌<◌, ◌⊎◌, List, [], ◌++◌, length, take, Option, Some}
use Rattle.eb_io.specs.Lines.{Line, longest_input, lines_of, whole_lines}
use Rattle.eb_lines.specs.declared.status.Status.{Status}
use Rattle.eb_lines.specs.declared.status.Status.TheVariants.{Done, Refused, Usage, ReadFault, WriteFault, NoMemory, InputTooLong, BadImage}

-- a prefix of the whole text of the first `count` lines of an input of these bytes
pub record IsPartOfOutput (ends_with : List Line → List ℕ → Type 0) (bytes printed : List ℕ) : Type 0 where
  pub count : ℕ
  pub whole : List ℕ
  pub more : List ℕ
  pub text : ends_with (take count (lines_of bytes)) whole
  pub front : whole ≡ printed ++ more

-- these of the bytes were taken, and their whole lines were answered
pub record IsStoppedAt (prints : List Line → List ℕ → Type 0) (bytes : List ℕ) (left : Option (List ℕ)) (printed taken : List ℕ) : Type 0 where
  pub rest : List ℕ
  pub whole : bytes ≡ taken ++ rest
  pub still : left ≡ Some rest
  pub body : prints (whole_lines taken) printed

-- what a program that ends so has printed, of an input of these bytes of which this is left
abbrev pub Wrote : (prints ends_with : List Line → List ℕ → Type 0) (refuses accepts : List Line → Type 0) → Status → List ℕ → Option (List ℕ) → List ℕ → Type 0
Wrote prints ends_with refuses accepts Done bytes left printed = (left ≡ Some []) × ends_with (lines_of bytes) printed × accepts (lines_of bytes) × (length bytes < longest_input)
Wrote prints ends_with refuses accepts Refused bytes left printed = (left ≡ Some []) × ends_with (lines_of bytes) printed × refuses (lines_of bytes) × (length bytes < longest_input)
Wrote prints ends_with refuses accepts ReadFault bytes left printed = (taken : List ℕ) × IsStoppedAt prints bytes left printed taken × (length taken < longest_input)
Wrote prints ends_with refuses accepts InputTooLong bytes left printed = (taken : List ℕ) × IsStoppedAt prints bytes left printed taken × (length taken ≡ longest_input)
Wrote prints ends_with refuses accepts WriteFault bytes left printed = IsPartOfOutput ends_with bytes printed
Wrote prints ends_with refuses accepts NoMemory bytes left printed = IsPartOfOutput ends_with bytes printed
Wrote prints ends_with refuses accepts Usage bytes left printed = ⊥
Wrote prints ends_with refuses accepts BadImage bytes left printed = ⊥

-- these of the bytes were taken, and the others are left
pub record AreTaken (bytes : List ℕ) (left : Option (List ℕ)) (taken : List ℕ) : Type 0 where
  pub rest : List ℕ
  pub whole : bytes ≡ taken ++ rest
  pub still : left ≡ Some rest

-- what a status says of an input of these bytes of which this is left, whatever became of the
-- output: at Done and Refused all was taken, which is less than an input may have, and no line or
-- some line is refused; at ReadFault less was taken than an input may have, and at InputTooLong as
-- much
abbrev pub Means : (refuses accepts : List Line → Type 0) → Status → List ℕ → Option (List ℕ) → Type 0
Means refuses accepts Done bytes left = (left ≡ Some []) × (length bytes < longest_input) × accepts (lines_of bytes)
Means refuses accepts Refused bytes left = (left ≡ Some []) × (length bytes < longest_input) × refuses (lines_of bytes)
Means refuses accepts ReadFault bytes left = (taken : List ℕ) × AreTaken bytes left taken × (length taken < longest_input)
Means refuses accepts InputTooLong bytes left = (taken : List ℕ) × AreTaken bytes left taken × (length taken ≡ longest_input)
Means refuses accepts WriteFault bytes left = (taken : List ℕ) × AreTaken bytes left taken
Means refuses accepts NoMemory bytes left = (taken : List ℕ) × AreTaken bytes left taken
Means refuses accepts Usage bytes left = ⊥
Means refuses accepts BadImage bytes left = ⊥

-- the whole input is processed, unless memory ran out
abbrev pub IsWorkedOff : Status → Type 0
IsWorkedOff status = (status ≡ Done) ⊎ ((status ≡ Refused) ⊎ (status ≡ NoMemory))
