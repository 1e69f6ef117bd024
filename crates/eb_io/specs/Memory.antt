-- Sources and sinks in memory, which fail at listed calls.
use Rattle.std.specs.Prelude.{◌≡◌, ℕ, ◌-◌, ◌^◌, ◌<◌, ◌⊎◌, min, List, [], length, Result, Ok, Err}
use Rattle.std.specs.List.{Contains}
use Rattle.eb_io.specs.declared.source.Got.{Got}
use Rattle.eb_io.specs.declared.source.Got.TheVariants.{Bytes, End, Failed}
use Rattle.eb_io.specs.Faults.{one_more}

-- a source in memory: what is left, the most that a call gives, the numbers of the calls that fail,
-- and how many calls and faults there were
pub record SourceState : Type 0 where
  pub left : List ℕ
  pub piece : ℕ
  pub failing : List ℕ
  pub calls : ℕ
  pub faults : ℕ

-- a sink in memory: what it took, the most that it takes in all and in a call, the numbers of the
-- calls that fail, and how many calls and faults there were
pub record SinkState : Type 0 where
  pub taken : List ℕ
  pub room : ℕ
  pub piece : ℕ
  pub failing : List ℕ
  pub calls : ℕ
  pub faults : ℕ

-- the call of this number is to fail; at the last number, which later calls share, none is
abbrev pub IsListed : List ℕ → ℕ → Type 0
IsListed failing call = (call < 2 ^ 64 - 1) × Contains failing call

-- what a read of a source in memory answers: it fails exactly where its call is listed; else it
-- ends exactly where nothing is left; else it gives as much as it can
abbrev pub Answers : SourceState → ℕ → Got → Type 0
Answers s room Failed = IsListed s.failing (one_more s.calls)
Answers s room End = (IsListed s.failing (one_more s.calls) → ⊥) × (s.left ≡ [])
Answers s room (Bytes n) = (IsListed s.failing (one_more s.calls) → ⊥) × (n ≡ min s.piece (min room (length s.left)))

-- the next call of a sink in memory fails: it is listed, or all the room is taken
abbrev pub FailsNext : SinkState → Type 0
FailsNext s = IsListed s.failing (one_more s.calls) ⊎ (length s.taken ≡ s.room)

-- what a put of n bytes answers: it fails exactly where that is to be, and else takes as many as it
-- can
abbrev pub Takes : {E : Type 0} → SinkState → ℕ → Result ℕ E → Type 0
Takes s many (Ok n) = (FailsNext s → ⊥) × (n ≡ min s.piece (min many (s.room - length s.taken)))
Takes s many (Err e) = FailsNext s
