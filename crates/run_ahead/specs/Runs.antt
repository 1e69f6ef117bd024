-- What a run over a store that adds many documents at once does with several lines.
use Rattle.eb_fields.specs.Dialect.{Dialect, dialect_of}
use Rattle.std.specs.Prelude.{◌≡◌, ℕ, List, ◌++◌, Result}
use Rattle.std.specs.List.{AllZip}
use Rattle.run_store.specs.declared.answering.Answering.{Answering}
use Rattle.run_store.specs.Answering.{HasAnswered}
use Rattle.run_store.specs.Rules.{Rules}
use Rattle.eb_base.specs.Document.{Doc}
use Rattle.eb_io.specs.Lines.{Line}
use Rattle.eb_lines.specs.Reading.{Reading}
use Rattle.run_ahead.specs.declared.reading.Other.{Other}
use Rattle.run_ahead.specs.Tasks.{IsTaskOf}

-- lines that are read so were taken, and what they print was put after the text
abbrev pub TakesRun : {G S W : Type 0} → (Dialect → List ℕ → Reading → Type 0) → (S → Rules W → List Doc → W → Type 0) → Answering G S → Answering G S
    → List ℕ → List ℕ → List (Result Doc Other) → Type 0
TakesRun {G} {S} {W} other holds old new text_old text_new tasks = (lines : List Line) → AllZip (IsTaskOf (dialect_of old.dialect)) lines tasks
    → (rules : Rules W) (given : List Line) (so_far : List ℕ) → HasAnswered other holds old rules given so_far
    → (printed : List ℕ) × HasAnswered other holds new rules (given ++ lines) (so_far ++ printed) × (text_new ≡ text_old ++ printed)
