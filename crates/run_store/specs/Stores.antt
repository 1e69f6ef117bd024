-- What a store does with documents, queries and other lines.
use Rattle.std.specs.Prelude.{◌≡◌, ℕ, ◌+◌, ◌≤◌, ◌^◌, List, ◌++◌, length, Option, Some, None}
use Rattle.eb_base.specs.Document.{Doc}
use Rattle.eb_base.specs.Query.{Tree}
use Rattle.eb_query.specs.declared.ask.Ask.{Ask}
use Rattle.eb_lines.specs.declared.form.Form.{Form}
use Rattle.eb_lines.specs.declared.refusal.Refusal.{Refusal}
use Rattle.eb_lines.specs.Progress.{documents_in}
use Rattle.eb_lines.specs.Reading.{Reading, blank, document, query, refused, watch}
use Rattle.eb_lines.specs.Text.{asked_line}
use Rattle.run_store.specs.Rules.{Rules, document_outcome, comes, watches_after}

-- the store holds some documents by some rules, of which no more came from lines than an input may
-- have
pub record IsHolding {P W : Type 0} (holds : P → Rules W → List Doc → W → Type 0) (s : P) : Type 0 where
  pub rules : Rules W
  pub docs : List Doc
  pub watches : W
  pub is : holds s rules docs watches
  pub few : length docs ≤ length rules.start + 2 ^ 41

-- the output is written so
abbrev pub HasForm : {P W : Type 0} → (P → Rules W → List Doc → W → Type 0) → P → Form → Type 0
HasForm {P} {W} holds s form = (rules : Rules W) (docs : List Doc) (ws : W) → holds s rules docs ws → form ≡ rules.form

-- the document was accepted, or refused for this cause
abbrev pub Places : {P W : Type 0} → (P → Rules W → List Doc → W → Type 0) → P → P → Doc → Option Refusal → Type 0
Places {P} {W} holds old new d r = (rules : Rules W) (docs : List Doc) (ws : W) → holds old rules docs ws
    → (r ≡ rules.refusal docs d) × holds new rules (docs ++ documents_in (document_outcome d r)) ws

-- these are the numbers of the watches that the document matches
abbrev pub Tells : {P W : Type 0} → (P → Rules W → List Doc → W → Type 0) → P → Doc → List ℕ → Type 0
Tells {P} {W} holds s d ns = (rules : Rules W) (docs : List Doc) (ws : W) → holds s rules docs ws → ns ≡ rules.tells ws d

-- the answer of line `number` was put after the text
abbrev pub PutsAnswer : {P W : Type 0} → (P → Rules W → List Doc → W → Type 0) → P → P → ℕ → Ask → Tree → List ℕ → List ℕ → Type 0
PutsAnswer {P} {W} holds old new number a q text_old text_new = (rules : Rules W) (docs : List Doc) (ws : W) → holds old rules docs ws → length docs ≤ length rules.start + 2 ^ 41
    → holds new rules docs ws × (text_new ≡ text_old ++ asked_line rules.form number (length docs) a q (rules.sees docs))

-- a watch line was taken, or a line refused
abbrev pub IsOutcome : Reading → Option Refusal → Type 0
IsOutcome (watch n q) None = Unit {0}
IsOutcome (refused x) (Some r) = x ≡ r
IsOutcome (watch n q) (Some r) = ⊥
IsOutcome (refused x) None = ⊥
IsOutcome blank r = ⊥
IsOutcome (document d) r = ⊥
IsOutcome (query a q) r = ⊥

-- a line that is neither blank, nor a document or query line was taken, or refused for this cause
abbrev pub TakesOther : {P W : Type 0} → (P → Rules W → List Doc → W → Type 0) → P → P → Reading → Option Refusal → Type 0
TakesOther {P} {W} holds old new r x = (rules : Rules W) (docs : List Doc) (ws : W) → holds old rules docs ws
    → IsOutcome (comes rules docs ws r) x × holds new rules docs (watches_after rules ws (comes rules docs ws r))

-- it holds what it held
abbrev pub Keeps : {P W : Type 0} → (P → Rules W → List Doc → W → Type 0) → P → P → Type 0
Keeps {P} {W} holds old new = (rules : Rules W) (docs : List Doc) (ws : W) → holds old rules docs ws → holds new rules docs ws
