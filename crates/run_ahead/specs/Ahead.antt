-- How far a run is between two lines, where some lines wait.
use Rattle.eb_fields.specs.Dialect.{Dialect, dialect_of}
use Rattle.std.specs.Prelude.{◌≡◌, ℕ, ◌+◌, ◌≤◌, ◌^◌, List, [], ◌++◌, length, drop, Result, OnOk}
use Rattle.std.specs.List.{AllZip}
use Rattle.std.specs.declared.vec.Vec.{Vec}
use Rattle.std.proofs.Common.{append-nil, sym, subst}
use denote.MutBor.{MutBor}
use Rattle.run_store.specs.Answering.{HasAnswered, answered_body}
use Rattle.run_store.specs.Rules.{Rules}
use Rattle.run_store.specs.Sees.{exactly}
use Rattle.run_store.specs.Text.{IsBody}
use Rattle.eb_base.specs.Document.{Doc}
use Rattle.eb_io.specs.Lines.{Line}
use Rattle.eb_lines.specs.Programs.{IsRunning, WorksOn, PrintsFront}
use Rattle.eb_lines.specs.Reading.{Reading}
use Rattle.run_ahead.specs.declared.ahead.Ahead.{Ahead}
use Rattle.run_ahead.specs.declared.reading.Other.{Other}
use Rattle.run_ahead.specs.Tasks.{IsTaskOf}

-- no line waits
abbrev pub HoldsNone : {G S : Type 0} → Ahead G S → Type 0
HoldsNone s = (s.held ≡ []) × (s.worked ≡ 0)

-- the lines that wait
abbrev pub waiting_in : {G S : Type 0} → Ahead G S → List Line
waiting_in s = drop s.worked s.held

-- the lines that wait are read so
abbrev pub AreWaiting : {G S : Type 0} → Ahead G S → List (Result Doc Other) → Type 0
AreWaiting s tasks = AllZip (IsTaskOf (dialect_of s.answering.dialect)) (waiting_in s) tasks

-- this many more of the lines that wait are processed
abbrev pub HasWorked : {G S : Type 0} → Ahead G S → Ahead G S → ℕ → Type 0
HasWorked old new n = (new.held ≡ old.held) × (new.worked ≡ old.worked + n)

-- of these lines the first are processed, by these rules, and printed this text; the others wait
pub record HasHeld {G S W : Type 0} (other : Dialect → List ℕ → Reading → Type 0) (holds : S → Rules W → List Doc → W → Type 0)
    (s : Ahead G S) (rules : Rules W) (given : List Line) (so_far : List ℕ) : Type 0 where
  pub done : List Line
  pub lines : given ≡ done ++ waiting_in s
  pub within : s.worked ≤ length s.held
  pub past : s.worked ≤ length done
  pub answered : HasAnswered other holds s.answering rules done so_far
  pub number : s.number ≡ length given
  pub short : s.number ≤ 2 ^ 40 + 1

-- what may be called between two lines, and processes those that wait, unless memory runs out
pub record WorksOffHeld {G S W F Z E : Type 0} (other : Dialect → List ℕ → Reading → Type 0) (holds : S → Rules W → List Doc → W → Type 0)
    (pre : F → MutBor (Ahead G S) → MutBor (Vec ℕ Z) → Type 0)
    (post : F → MutBor (Ahead G S) → MutBor (Vec ℕ Z) → Result (Unit {0}) E → MutBor (Ahead G S) → MutBor (Vec ℕ Z) → Type 0) (worker : F) : Type 0 where
  pub may : (old : MutBor (Ahead G S)) (text : MutBor (Vec ℕ Z)) → IsRunning (HasHeld other holds) old.now → pre worker old text
  pub on : (old new : MutBor (Ahead G S)) (text more : MutBor (Vec ℕ Z)) (r : Result (Unit {0}) E) → post worker old text r new more
      → WorksOn (HasHeld other holds) old.now new.now text.now.items more.now.items
  pub none : (old new : MutBor (Ahead G S)) (text more : MutBor (Vec ℕ Z)) (r : Result (Unit {0}) E) → post worker old text r new more → OnOk r (HoldsNone new.now)
  pub same : (old new : MutBor (Ahead G S)) (text more : MutBor (Vec ℕ Z)) (r : Result (Unit {0}) E) → post worker old text r new more → new.now.number ≡ old.now.number

-- a run whose lines such a worker processes
abbrev pub HasHeldBy : {G S W F Z E : Type 0} → (Dialect → List ℕ → Reading → Type 0) → (S → Rules W → List Doc → W → Type 0)
    → (F → MutBor (Ahead G S) → MutBor (Vec ℕ Z) → Type 0) → (F → MutBor (Ahead G S) → MutBor (Vec ℕ Z) → Result (Unit {0}) E → MutBor (Ahead G S) → MutBor (Vec ℕ Z) → Type 0)
    → F → Ahead G S → Rules W → List Line → List ℕ → Type 0
HasHeldBy other holds pre post worker s rules given so_far = WorksOffHeld other holds pre post worker × HasHeld other holds s rules given so_far

-- the lines that are processed are the first ones, and printed this
pub held_first : {G S W : Type 0} (other : Dialect → List ℕ → Reading → Type 0) (holds : S → Rules W → List Doc → W → Type 0)
    (s : Ahead G S) (rules : Rules W) (given : List Line) (so_far : List ℕ)
    → HasHeld other holds s rules given so_far → PrintsFront (IsBody other exactly) rules given so_far
held_first other holds s rules given so_far h = (
  h.done,
  waiting_in s,
  [],
  h.lines,
  subst (IsBody other exactly rules h.done) (sym (append-nil so_far)) (answered_body other holds s.answering rules h.done so_far h.answered),
)
