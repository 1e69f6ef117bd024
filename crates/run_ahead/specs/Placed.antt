-- What comes of documents that a store adds one after the other.
use Rattle.std.specs.Prelude.{◌≡◌, ℕ, ◌+◌, ◌≤◌, ◌^◌, List, [], ◌∷◌, ◌++◌, length, Option, None, Result, Ok, Err}
use Rattle.run_store.specs.Rules.{Rules, document_outcome}
use Rattle.eb_base.specs.Document.{Doc}
use Rattle.eb_lines.specs.declared.refusal.Refusal.{Refusal}
use Rattle.eb_lines.specs.Progress.{documents_in}

-- the store holds some documents by some rules, and with n more there are still no more than an
-- input may have
pub record IsHoldingFor {P W : Type 0} (holds : P → Rules W → List Doc → W → Type 0) (s : P) (more : ℕ) : Type 0 where
  pub rules : Rules W
  pub docs : List Doc
  pub watches : W
  pub is : holds s rules docs watches
  pub few : length docs + more ≤ length rules.start + 2 ^ 41

-- why an item is refused after these documents, if it is a document that is
abbrev pub item_refusal : {E W : Type 0} → Rules W → List Doc → Result Doc E → Option Refusal
item_refusal rules docs (Ok d) = rules.refusal docs d
item_refusal rules docs (Err e) = None

-- what is held after it
abbrev pub docs_with : {E W : Type 0} → Rules W → List Doc → Result Doc E → List Doc
docs_with rules docs (Ok d) = docs ++ documents_in (document_outcome d (rules.refusal docs d))
docs_with rules docs (Err e) = docs

-- the same of items, each after those before it
unfoldable pub item_refusals : {E W : Type 0} → Rules W → List Doc → List (Result Doc E) → List (Option Refusal)
item_refusals rules docs [] = []
item_refusals rules docs (item ∷ items) = item_refusal rules docs item ∷ item_refusals rules (docs_with rules docs item) items

unfoldable pub docs_after : {E W : Type 0} → Rules W → List Doc → List (Result Doc E) → List Doc
docs_after rules docs [] = docs
docs_after rules docs (item ∷ items) = docs_after rules (docs_with rules docs item) items

-- what came of an item is this
abbrev pub PlacesItem : {E P W : Type 0} → (P → Rules W → List Doc → W → Type 0) → P → P → Result Doc E → Option Refusal → Type 0
PlacesItem {E} {P} {W} holds old new item r = (rules : Rules W) (docs : List Doc) (ws : W) → holds old rules docs ws
    → (r ≡ item_refusal rules docs item) × holds new rules (docs_with rules docs item) ws

-- the documents among the items were added in order, and these are the causes of those that are
-- refused
abbrev pub PlacesAll : {E P W : Type 0} → (P → Rules W → List Doc → W → Type 0) → P → P → List (Result Doc E) → List (Option Refusal) → Type 0
PlacesAll {E} {P} {W} holds old new items rs = (rules : Rules W) (docs : List Doc) (ws : W) → holds old rules docs ws
    → (rs ≡ item_refusals rules docs items) × holds new rules (docs_after rules docs items) ws
