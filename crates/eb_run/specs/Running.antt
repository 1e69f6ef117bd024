-- What the index of a run holds, and which lines of the input wait; and that what a run printed is a prefix of a whole text.
use Rattle.eb_fields.specs.Dialect.{Dialect, dialect_of}
use Rattle.std.specs.Prelude.{◌≡◌, ℕ, List, [], ◌++◌, length, Result, OnOk}
use Rattle.std.specs.declared.vec.Vec.{Vec}
use denote.MutBor.{MutBor}
use Rattle.std.proofs.Common.{refl, sym, ap, ◌∙◌, append_assoc, append-nil}
use Rattle.run_store.specs.Rules.{Rules, is_bad}
use Rattle.run_store.specs.Sees.{between}
use Rattle.run_store.specs.Text.{IsBody}
use Rattle.run_store.proofs.Texts.{body_empty}
use Rattle.eb_base.specs.Setting.{Setting}
use Rattle.eb_io.specs.Lines.{Line}
use Rattle.eb_lines.specs.declared.form.Form.{Form}
use Rattle.eb_lines.specs.Programs.{IsRunning, WorksOn, PrintsFront}
use Rattle.eb_table.specs.Known.{Words}
use Rattle.eb_run.specs.declared.running.Running.{Running}
use Rattle.eb_run.specs.Waiting.{rules_in, HasGathered}

-- how lines are read, the setting of the index, and how what is printed is written
pub record Asked : Type 0 where
  pub dialect : Dialect
  pub setting : Setting
  pub form : Form

abbrev pub asked : Dialect → Setting → Form → Asked
asked how σ form = record { dialect = how; setting = σ; form = form }

abbrev pub rules_of : Asked → Rules (Unit {0})
rules_of a = rules_in a.dialect a.form a.setting

-- no line is held
abbrev pub HoldsNone : Running → Type 0
HoldsNone r = (r.rounds.ahead ≡ []) × (r.rounds.held ≡ [])

-- of these lines the run has processed some, as it was asked, and they printed this text: the history of the index's writer
-- is the documents that the run accepted
pub record HasRun (r : Running) (a : Asked) (given : List Line) (so_far : List ℕ) : Type 0 where
  pub words : Words
  pub index : r.index ≡ words
  pub setting : words.setting ≡ a.setting
  pub writer : r.writer.index ≡ words
  pub converter : r.converter.index ≡ words
  pub dialect : dialect_of r.dialect ≡ a.dialect
  pub form : r.form ≡ a.form
  pub number : r.number ≡ length given
  pub worked : HasGathered a.dialect a.form a.setting given r.writer.docs r.rounds so_far

-- what may be called between two lines, and processes the held lines, if memory suffices
pub record WorksOffHeld {W Z E : Type 0} (pre : W → MutBor Running → MutBor (Vec ℕ Z) → Type 0)
    (post : W → MutBor Running → MutBor (Vec ℕ Z) → Result (Unit {0}) E → MutBor Running → MutBor (Vec ℕ Z) → Type 0) (worker : W) : Type 0 where
  pub may : (old : MutBor Running) (text : MutBor (Vec ℕ Z)) → IsRunning HasRun old.now → pre worker old text
  pub on : (old new : MutBor Running) (text more : MutBor (Vec ℕ Z)) (r : Result (Unit {0}) E) → post worker old text r new more → WorksOn HasRun old.now new.now text.now.items more.now.items
  pub none : (old new : MutBor Running) (text more : MutBor (Vec ℕ Z)) (r : Result (Unit {0}) E) → post worker old text r new more → OnOk r (HoldsNone new.now)
  pub same : (old new : MutBor Running) (text more : MutBor (Vec ℕ Z)) (r : Result (Unit {0}) E) → post worker old text r new more
      → new.now.number ≡ old.now.number

-- a run that is worked by such a worker
abbrev pub HasRunBy : {W Z E : Type 0} → (W → MutBor Running → MutBor (Vec ℕ Z) → Type 0)
    → (W → MutBor Running → MutBor (Vec ℕ Z) → Result (Unit {0}) E → MutBor Running → MutBor (Vec ℕ Z) → Type 0) → W → Running → Asked → List Line → List ℕ → Type 0
HasRunBy pre post worker r a given so_far = WorksOffHeld pre post worker × HasRun r a given so_far

-- the lines that are processed are the first ones, and printed this
pub run_first : (r : Running) (a : Asked) (given : List Line) (so_far : List ℕ) → HasRun r a given so_far → PrintsFront (λ x. IsBody is_bad between (rules_of x)) a given so_far
run_first r a given so_far h =
    let w = h.worked.worked in (
      w.done,
      w.waiting ++ h.worked.behind,
      [],
      h.worked.parts ∙ ap (λ ls. ls ++ h.worked.behind) w.parts ∙ append_assoc w.done w.waiting h.worked.behind,
      record {
        readings = w.readings;
        numbers = w.numbers;
        read = w.read;
        reach = w.sees;
        bytes = append-nil so_far ∙ w.printed ∙ sym (body_empty (rules_of a) refl w.numbers w.readings);
      },
    )
