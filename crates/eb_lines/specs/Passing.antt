-- How far a program over lines is between two of them, and how it ends, also over a source or a
-- sink that tells no bytes.
use Rattle.std.specs.Prelude.{◌≡◌, ℕ, ◌<◌, ◌≤◌, true, List, ◌++◌, length, Option, Some, Result, Ok, Err}
use Rattle.eb_io.specs.Lines.{Line, longest_input, lines_of, whole_lines}
use Rattle.eb_io.specs.Held.{Held, HasGiven, HasNoLine, HasAllLines}
use Rattle.eb_io.specs.Source.{after, IsEmpty}
use Rattle.eb_io.specs.Sink.{grown}
use Rattle.eb_lines.specs.declared.status.Status.{Status}
use Rattle.eb_lines.specs.declared.status.Status.TheVariants.{Done, Refused, Usage, ReadFault, WriteFault, NoMemory, InputTooLong, BadImage}
use Rattle.eb_lines.specs.declared.passing.Upcoming.{Upcoming}
use Rattle.eb_lines.specs.declared.passing.Upcoming.TheVariants as next

-- these are the first lines of the bytes taken and what is left, where that is known
abbrev pub AreFirstLines : List Line → List ℕ → Option (List ℕ) → Type 0
AreFirstLines lines taken left = (rest : List ℕ) → left ≡ Some rest → (more : List Line) × (lines_of (taken ++ rest) ≡ lines ++ more)

-- between two lines: the lines given are those of the bytes taken, and what those that are
-- processed print is written or buffered
pub record IsAt {P A : Type 0} (has_run : P → A → List Line → List ℕ → Type 0)
    (a : A) (left_old left_new printed_old printed_new : Option (List ℕ)) (held : Held) (run : P) (gathered : List ℕ) : Type 0 where
  pub taken : List ℕ
  pub given : List Line
  pub so_far : List ℕ
  pub written : List ℕ
  pub left : left_old ≡ after taken left_new
  pub lines : HasGiven taken given held
  pub limit : held.limit ≡ longest_input
  pub within : held.taken ≤ held.limit
  pub ended : held.is_ended ≡ true → IsEmpty left_new
  pub works : has_run run a given so_far
  pub wrote : printed_new ≡ grown printed_old written
  pub parts : so_far ≡ written ++ gathered

-- and all lines of the input were given
abbrev pub IsAtEnd : {P A : Type 0} → (P → A → List Line → List ℕ → Type 0) → A → Option (List ℕ) → Option (List ℕ) → Option (List ℕ) → Option (List ℕ) → Held → P → List ℕ → Type 0
IsAtEnd has_run a l0 l1 p0 p1 held run gathered = (at : IsAt has_run a l0 l1 p0 p1 held run gathered) × HasAllLines at.taken at.given held × (length at.taken < held.limit)

-- or all whole lines of the bytes taken, at a fault or where they are as many as may be
abbrev pub IsStopped : {P A : Type 0} → (P → A → List Line → List ℕ → Type 0) → Status → A → Option (List ℕ) → Option (List ℕ) → Option (List ℕ) → Option (List ℕ) → Held → P → List ℕ → Type 0
IsStopped has_run ReadFault a l0 l1 p0 p1 held run gathered = (at : IsAt has_run a l0 l1 p0 p1 held run gathered) × HasNoLine at.taken at.given held × (length at.taken < held.limit)
IsStopped has_run InputTooLong a l0 l1 p0 p1 held run gathered = (at : IsAt has_run a l0 l1 p0 p1 held run gathered) × HasNoLine at.taken at.given held × (length at.taken ≡ held.limit)
IsStopped has_run Done a l0 l1 p0 p1 held run gathered = ⊥
IsStopped has_run Refused a l0 l1 p0 p1 held run gathered = ⊥
IsStopped has_run Usage a l0 l1 p0 p1 held run gathered = ⊥
IsStopped has_run BadImage a l0 l1 p0 p1 held run gathered = ⊥
IsStopped has_run WriteFault a l0 l1 p0 p1 held run gathered = ⊥
IsStopped has_run NoMemory a l0 l1 p0 p1 held run gathered = ⊥

-- the program may stop here: a prefix of what some first lines of the input print is written or
-- buffered
pub record MayStop (prints : List Line → List ℕ → Type 0) (left_old left_new printed_old printed_new : Option (List ℕ)) (gathered : List ℕ) : Type 0 where
  pub taken : List ℕ
  pub done : List Line
  pub so_far : List ℕ
  pub rest : List ℕ
  pub written : List ℕ
  pub left : left_old ≡ after taken left_new
  pub first : AreFirstLines done taken left_new
  pub body : prints done (so_far ++ rest)
  pub wrote : printed_new ≡ grown printed_old written
  pub parts : so_far ≡ written ++ gathered

-- a prefix of the whole text of some first lines
pub record IsFrontOfWhole (ends_with : List Line → List ℕ → Type 0) (taken : List ℕ) (left : Option (List ℕ)) (printed : List ℕ) : Type 0 where
  pub lines : List Line
  pub whole : List ℕ
  pub more : List ℕ
  pub first : AreFirstLines lines taken left
  pub text : ends_with lines whole
  pub front : whole ≡ printed ++ more

-- how a program over these taken bytes ends
abbrev pub EndsAs : (prints ends_with : List Line → List ℕ → Type 0) (refuses accepts : List Line → Type 0) → Status → List ℕ → Option (List ℕ) → List ℕ → Type 0
EndsAs prints ends_with refuses accepts Done taken left printed = IsEmpty left × ends_with (lines_of taken) printed × accepts (lines_of taken) × (length taken < longest_input)
EndsAs prints ends_with refuses accepts Refused taken left printed = IsEmpty left × ends_with (lines_of taken) printed × refuses (lines_of taken) × (length taken < longest_input)
EndsAs prints ends_with refuses accepts ReadFault taken left printed = prints (whole_lines taken) printed × (length taken < longest_input)
EndsAs prints ends_with refuses accepts InputTooLong taken left printed = prints (whole_lines taken) printed × (length taken ≡ longest_input)
EndsAs prints ends_with refuses accepts WriteFault taken left printed = IsFrontOfWhole ends_with taken left printed
EndsAs prints ends_with refuses accepts NoMemory taken left printed = IsFrontOfWhole ends_with taken left printed
EndsAs prints ends_with refuses accepts Usage taken left printed = ⊥
EndsAs prints ends_with refuses accepts BadImage taken left printed = ⊥

-- some bytes were taken and some printed, as the status says
pub record Ends (prints ends_with : List Line → List ℕ → Type 0) (refuses accepts : List Line → Type 0) (status : Status) (left_old left_new printed_old printed_new : Option (List ℕ)) : Type 0 where
  pub taken : List ℕ
  pub printed : List ℕ
  pub left : left_old ≡ after taken left_new
  pub put : printed_new ≡ grown printed_old printed
  pub ends : EndsAs prints ends_with refuses accepts status taken left_new printed

-- a program that is somewhere between two lines
abbrev pub IsSomewhere : {P A : Type 0} → (P → A → List Line → List ℕ → Type 0) → Option (List ℕ) → Option (List ℕ) → Held → P → List ℕ → Type 0
IsSomewhere {P} {A} has_run l1 p1 held run gathered = (a : A) × (l0 : Option (List ℕ)) × (p0 : Option (List ℕ)) × IsAt has_run a l0 l1 p0 p1 held run gathered

-- where the program is after the next line was asked for
abbrev pub Comes : {P A : Type 0} → (P → A → List Line → List ℕ → Type 0) → (A → List Line → List ℕ → Type 0) → Upcoming
    → A → Option (List ℕ) → Option (List ℕ) → Option (List ℕ) → Option (List ℕ) → Held → P → List ℕ → Type 0
Comes has_run prints next.Line a l0 l1 p0 p1 held run gathered = IsAt has_run a l0 l1 p0 p1 held run gathered
Comes has_run prints next.End a l0 l1 p0 p1 held run gathered = IsAtEnd has_run a l0 l1 p0 p1 held run gathered
Comes has_run prints next.ReadFault a l0 l1 p0 p1 held run gathered = IsStopped has_run ReadFault a l0 l1 p0 p1 held run gathered
Comes has_run prints next.InputTooLong a l0 l1 p0 p1 held run gathered = IsStopped has_run InputTooLong a l0 l1 p0 p1 held run gathered
Comes has_run prints next.NoMemory a l0 l1 p0 p1 held run gathered = MayStop (prints a) l0 l1 p0 p1 gathered

-- a line came, and was taken or not
abbrev pub upcoming_of : {T E : Type 0} → Result T E → Upcoming
upcoming_of (Ok x) = next.Line
upcoming_of (Err e) = next.NoMemory
