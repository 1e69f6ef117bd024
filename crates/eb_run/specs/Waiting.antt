-- How far a run with overlap is between two lines, where some lines are held.
use Rattle.eb_fields.specs.Dialect.{Dialect}
use Rattle.std.specs.Prelude.{◌≡◌, ℕ, ◌≤◌, List, [], ◌++◌, length}
use Rattle.run_store.specs.Rows.{QueriesFirst}
use Rattle.run_store.specs.Rules.{Rules, is_bad, AreRead}
use Rattle.run_store.specs.Sees.{SeesBetween}
use Rattle.run_store.specs.Text.{body_from}
use Rattle.std.specs.List.{AllZip}
use Rattle.eb_base.specs.Document.{Doc}
use Rattle.eb_base.specs.Setting.{Setting}
use Rattle.eb_io.specs.Lines.{Line}
use Rattle.eb_lines.specs.declared.form.Form.{Form}
use Rattle.eb_lines.specs.Reading.{Reading}
use Rattle.eb_lines.specs.Progress.{accepted, queries, refusals}
use Rattle.run_index.specs.IndexRules.{index_rules}
use Rattle.eb_rounds.specs.Shown.{Counted}
use Rattle.eb_rounds.specs.Standing.{Standing}
use Rattle.eb_lines.specs.Reads.{Reads}
use Rattle.eb_run.specs.Holding.{held_from}

-- whatever the lines are read as by the dialect, no query line among them follows a document line
abbrev pub AreRound : Dialect → List Line → Type 0
AreRound how lines = (rs : List Reading) → AllZip (Reads how) lines rs → QueriesFirst rs

-- the rules of an index that is empty at first
abbrev pub rules_in : Dialect → Form → Setting → Rules (Unit {0})
rules_in how form σ = index_rules how σ form []

abbrev pub counts_of : List Reading → Counted
counts_of rs = record { documents = length (accepted rs); queries = queries rs; refused = refusals rs }

-- of the lines given these are done, and these wait as one round; those done printed this text
pub record HasWorkedOff (how : Dialect) (form : Form) (σ : Setting) (given : List Line) (docs : List Doc) (held : Standing) (so_far : List ℕ) : Type 0 where
  pub done : List Line
  pub waiting : List Line
  pub readings : List Reading
  pub numbers : ℕ → ℕ
  pub parts : given ≡ done ++ waiting
  pub read : AreRead is_bad (rules_in how form σ) done readings
  pub sees : SeesBetween readings numbers
  pub adds : docs ≡ accepted readings
  pub lines : held.held ≡ held_from how (length done) waiting
  pub round : AreRound how waiting
  pub counts : held.counts ≡ counts_of readings
  pub greatest : held.greatest ≤ length given
  pub printed : so_far ≡ body_from (rules_in how form σ) numbers (accepted readings) 0 tt readings

-- the round before the open one, by itself
abbrev pub round_ahead : Standing → Standing
round_ahead s = record { ahead = []; held = s.ahead; counts = s.counts; greatest = 0 }

-- of the lines given the first wait as the round ahead, or are done, and the others wait as the
-- open round
pub record HasGathered (how : Dialect) (form : Form) (σ : Setting) (given : List Line) (docs : List Doc) (s : Standing) (so_far : List ℕ) : Type 0 where
  pub before : List Line
  pub behind : List Line
  pub parts : given ≡ before ++ behind
  pub worked : HasWorkedOff how form σ before docs (round_ahead s) so_far
  pub lines : s.held ≡ held_from how (length before) behind
  pub round : AreRound how behind
  pub greatest : s.greatest ≤ length given

-- all lines given are done, and printed this text
pub record HasSettled (how : Dialect) (form : Form) (σ : Setting) (given : List Line) (docs : List Doc) (counts : Counted) (so_far : List ℕ) : Type 0 where
  pub readings : List Reading
  pub numbers : ℕ → ℕ
  pub read : AreRead is_bad (rules_in how form σ) given readings
  pub sees : SeesBetween readings numbers
  pub adds : docs ≡ accepted readings
  pub counted : counts ≡ counts_of readings
  pub printed : so_far ≡ body_from (rules_in how form σ) numbers (accepted readings) 0 tt readings
