-- The text that a run by some rules prints, by the documents that each query sees.
use Rattle.eb_fields.specs.Dialect.{Dialect}
use Rattle.std.specs.Prelude.{◌≡◌, ℕ, ◌+◌, List, [], ◌∷◌, ◌++◌, length, take, Option}
use Rattle.eb_base.specs.Document.{Doc}
use Rattle.eb_io.specs.Lines.{Line}
use Rattle.eb_lines.specs.declared.form.Form.{Form}
use Rattle.eb_lines.specs.declared.status.Status.{Status}
use Rattle.eb_lines.specs.Outcomes.{Wrote, Means}
use Rattle.eb_lines.specs.Passing.{Ends}
use Rattle.eb_lines.specs.Progress.{queries, refusals}
use Rattle.eb_lines.specs.Reading.{Reading, blank, document, query, refused, watch}
use Rattle.eb_lines.specs.Text.{asked_line, refusal_line, watch_line, summary_with}
use Rattle.run_store.specs.Rules.{Rules, AreRead, held_behind, watches_after, HasRefusal, HasNoRefusal}
use Rattle.run_store.specs.Sees.{Reach, Reaches}

-- what line `number` prints in this form, where a document tells these watches, and a query is answered over these of the first `seen`
-- of these documents
abbrev pub says_by : Form → (Doc → List ℕ) → (List Doc → List Doc) → ℕ → ℕ → List Doc → Reading → List ℕ
says_by form tells sees number seen docs blank = []
says_by form tells sees number seen docs (document d) = watch_line form number (tells d)
says_by form tells sees number seen docs (query a q) = asked_line form number seen a q (sees (take seen docs))
says_by form tells sees number seen docs (refused r) = refusal_line form number r
says_by form tells sees number seen docs (watch n q) = []

-- what it prints by the rules, after these watches
abbrev pub says : {W : Type 0} → Rules W → ℕ → ℕ → List Doc → W → Reading → List ℕ
says rules number seen docs ws r = says_by rules.form (rules.tells ws) rules.sees number seen docs r

-- what the lines print from line j + 1 on, after these watches, where line j + 1 sees the first `n j` of these documents
unfoldable pub body_from : {W : Type 0} → Rules W → (ℕ → ℕ) → List Doc → ℕ → W → List Reading → List ℕ
body_from rules n docs j ws [] = []
body_from rules n docs j ws (r ∷ rs) = says rules (j + 1) (n j) docs ws r ++ body_from rules n docs (j + 1) (watches_after rules ws r) rs

-- what the lines print, where line j + 1 sees the documents that were held at first and the first `n j` accepted ones
abbrev pub body : {W : Type 0} → Rules W → (ℕ → ℕ) → List Reading → List ℕ
body rules n rs = body_from rules (λ j. length rules.start + n j) (held_behind rules rs) 0 rules.watches rs

-- the summary, with what is printed beside the counts
abbrev pub end_of : {W : Type 0} → Rules W → List Reading → List ℕ
end_of rules rs = summary_with rules.form (length (held_behind rules rs)) (queries rs) (refusals rs) (rules.tail (held_behind rules rs))

-- what these lines print, where queries see what they may in this way
pub record IsBody {W : Type 0} (other : Dialect → List ℕ → Reading → Type 0) (way : Reach) (rules : Rules W) (lines : List Line) (printed : List ℕ) : Type 0 where
  pub readings : List Reading
  pub numbers : ℕ → ℕ
  pub read : AreRead other rules lines readings
  pub reach : Reaches way readings numbers
  pub bytes : printed ≡ body rules numbers readings

-- their whole text
pub record IsText {W : Type 0} (other : Dialect → List ℕ → Reading → Type 0) (way : Reach) (rules : Rules W) (lines : List Line) (printed : List ℕ) : Type 0 where
  pub readings : List Reading
  pub numbers : ℕ → ℕ
  pub read : AreRead other rules lines readings
  pub reach : Reaches way readings numbers
  pub bytes : printed ≡ body rules numbers readings ++ end_of rules readings

-- how such a run ends, also over a source or a sink that tells no bytes
abbrev pub EndsOf : {W : Type 0} → (Dialect → List ℕ → Reading → Type 0) → Reach → Rules W → Status → (left_old left_new printed_old printed_new : Option (List ℕ)) → Type 0
EndsOf other way rules = Ends (IsBody other way rules) (IsText other way rules) (HasRefusal other rules) (HasNoRefusal other rules)

-- what one that ends so has printed, of an input of these bytes of which this is left
abbrev pub WroteOf : {W : Type 0} → (Dialect → List ℕ → Reading → Type 0) → Reach → Rules W → Status → List ℕ → Option (List ℕ) → List ℕ → Type 0
WroteOf other way rules = Wrote (IsBody other way rules) (IsText other way rules) (HasRefusal other rules) (HasNoRefusal other rules)

-- what its status says of the input
abbrev pub MeansOf : {W : Type 0} → (Dialect → List ℕ → Reading → Type 0) → Rules W → Status → List ℕ → Option (List ℕ) → Type 0
MeansOf other rules = Means (HasRefusal other rules) (HasNoRefusal other rules)
