-- How far a run over a store has come between two lines, and that what it printed is a prefix of a whole text.
use Rattle.eb_fields.specs.Dialect.{Dialect, dialect_of}
use Rattle.std.specs.Prelude.{◌≡◌, ℕ, ◌+◌, ◌^◌, ◌≤◌, List, ◌++◌, length}
use Rattle.std.proofs.Common.{refl, ap}
use Rattle.eb_base.specs.Document.{Doc}
use Rattle.eb_io.specs.Lines.{Line}
use Rattle.eb_lines.specs.Programs.{WorksOnGiven, PrintsFront, prints_all}
use Rattle.eb_lines.specs.Progress.{queries, refusals, told}
use Rattle.eb_lines.specs.Reading.{Reading}
use Rattle.run_store.specs.declared.answering.Answering.{Answering}
use Rattle.run_store.specs.Rules.{Rules, ReadsWith, AreRead, held_behind, watches_behind}
use Rattle.run_store.specs.Sees.{Reach, exactly}
use Rattle.run_store.specs.Text.{body, end_of, IsBody, IsText}

-- these lines were taken, and they printed this
pub record HasAnswered {G S W : Type 0} (other : Dialect → List ℕ → Reading → Type 0) (holds : S → Rules W → List Doc → W → Type 0)
    (s : Answering G S) (rules : Rules W) (given : List Line) (so_far : List ℕ) : Type 0 where
  pub readings : List Reading
  pub dialect : dialect_of s.dialect ≡ rules.dialect
  pub read : AreRead other rules given readings
  pub store : holds s.store rules (held_behind rules readings) (watches_behind rules readings)
  pub number : s.number ≡ length given
  pub queries : s.queries ≡ queries readings
  pub refused : s.refused ≡ refusals readings
  pub short : s.number ≤ 2 ^ 40 + 1
  pub printed : so_far ≡ body rules (told readings) readings

-- a line of this reading was taken, and what it prints was put after the text
abbrev pub TakesLine : {G S W : Type 0} → (Dialect → List ℕ → Reading → Type 0) → (S → Rules W → List Doc → W → Type 0) → Answering G S → Answering G S → List ℕ → List ℕ → Reading → Type 0
TakesLine other holds old new text_old text_new r = (l : Line) → ReadsWith other (dialect_of old.dialect) l r → WorksOnGiven (HasAnswered other holds) old new text_old text_new l

-- what was printed, where queries see exactly the documents before their lines
abbrev pub answered_body : {G S W : Type 0} (other : Dialect → List ℕ → Reading → Type 0) (holds : S → Rules W → List Doc → W → Type 0)
    (s : Answering G S) (rules : Rules W) (given : List Line) (so_far : List ℕ)
    → HasAnswered other holds s rules given so_far → IsBody other exactly rules given so_far
answered_body other holds s rules given so_far h = record { readings = h.readings; numbers = told h.readings; read = h.read; reach = λ j. refl; bytes = h.printed }

-- the lines given are those that printed
pub answered_first : {G S W : Type 0} (other : Dialect → List ℕ → Reading → Type 0) (holds : S → Rules W → List Doc → W → Type 0)
    (s : Answering G S) (rules : Rules W) (given : List Line) (so_far : List ℕ)
    → HasAnswered other holds s rules given so_far → PrintsFront (IsBody other exactly) rules given so_far
answered_first other holds s rules given so_far h = prints_all (IsBody other exactly) rules given so_far (answered_body other holds s rules given so_far h)

-- what lines print, with the summary, is their whole text
pub body_text : {W : Type 0} (other : Dialect → List ℕ → Reading → Type 0) (way : Reach) (rules : Rules W) (lines : List Line) (printed : List ℕ) (b : IsBody other way rules lines printed)
    → IsText other way rules lines (printed ++ end_of rules b.readings)
body_text other way rules lines printed b =
    record { readings = b.readings; numbers = b.numbers; read = b.read; reach = b.reach; bytes = ap (λ x. x ++ end_of rules b.readings) b.bytes }

-- and comes first in it
pub body_first : {W : Type 0} (other : Dialect → List ℕ → Reading → Type 0) (way : Reach) (rules : Rules W) (lines : List Line) (printed : List ℕ) → IsBody other way rules lines printed
    → (more : List ℕ) × IsText other way rules lines (printed ++ more)
body_first other way rules lines printed b = (end_of rules b.readings, body_text other way rules lines printed b)
