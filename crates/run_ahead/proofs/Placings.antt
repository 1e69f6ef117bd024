-- A store adds documents one after the other.
use Rattle.std.proofs.Common.{◌≡◌, ℕ, ◌+◌, ◌-◌, ◌≤◌, suc, List, [], ◌∷◌, ◌++◌, length, Option, Some, None, Result, Ok, Err, refl, sym, ap, ap₂, subst, ◌∙◌, arith, length-append}
use Rattle.run_store.specs.Rules.{Rules, document_outcome}
use Rattle.run_store.specs.Stores.{IsHolding}
use Rattle.eb_base.specs.Document.{Doc}
use Rattle.eb_lines.specs.declared.refusal.Refusal.{Refusal}
use Rattle.eb_lines.specs.Progress.{documents_in}
use Rattle.run_ahead.specs.Placed.{IsHoldingFor, item_refusal, docs_with, item_refusals, docs_after, PlacesItem, PlacesAll}

outcome_adds_one : (d : Doc) (r : Option Refusal) → length (documents_in (document_outcome d r)) ≤ 1
outcome_adds_one d None = omega arith
outcome_adds_one d (Some x) = omega arith

module _ {E W : Type 0} (rules : Rules W) where
  pub item_refusals-push : (docs : List Doc) (items : List (Result Doc E)) (item : Result Doc E)
      → item_refusals rules docs (items ++ item ∷ []) ≡ item_refusals rules docs items ++ item_refusal rules (docs_after rules docs items) item ∷ []
  unfolding item_refusals docs_after
  item_refusals-push docs [] item = refl
  item_refusals-push docs (x ∷ xs) item = ap (λ rs. item_refusal rules docs x ∷ rs) (item_refusals-push (docs_with rules docs x) xs item)

  pub docs-push : (docs : List Doc) (items : List (Result Doc E)) (item : Result Doc E) → docs_after rules docs (items ++ item ∷ []) ≡ docs_with rules (docs_after rules docs items) item
  unfolding docs_after
  docs-push docs [] item = refl
  docs-push docs (x ∷ xs) item = docs-push (docs_with rules docs x) xs item

  pub item_refusals_long : (docs : List Doc) (items : List (Result Doc E)) → length (item_refusals rules docs items) ≡ length items
  unfolding item_refusals
  item_refusals_long docs [] = refl
  item_refusals_long docs (x ∷ xs) = ap suc (item_refusals_long (docs_with rules docs x) xs)

  -- an item adds one document at most
  pub adds_one : (docs : List Doc) (item : Result Doc E) → length (docs_with rules docs item) ≤ length docs + 1
  adds_one docs (Ok d) =
      let one = outcome_adds_one d (rules.refusal docs d) in omega (arith, one, length-append docs (documents_in (document_outcome d (rules.refusal docs d))))
  adds_one docs (Err e) = omega arith

module _ {P W : Type 0} (holds : P → Rules W → List Doc → W → Type 0) where
  pub holding_now : (s : P) (n : ℕ) → IsHoldingFor holds s n → IsHolding holds s
  holding_now s n h = record { rules = h.rules; docs = h.docs; watches = h.watches; is = h.is; few = omega (arith, h.few) }

  pub with_none : (s : P) (n : ℕ) → IsHoldingFor holds s n → IsHoldingFor holds s (n - 0)
  with_none s n h = record { rules = h.rules; docs = h.docs; watches = h.watches; is = h.is; few = omega (arith, h.few) }

  pub places_none : (E : Type 0) (s : P) → PlacesAll {E = E} holds s s [] []
  unfolding item_refusals docs_after
  places_none E s = λ rules docs ws h. (refl, h)

module _ {E P W : Type 0} (holds : P → Rules W → List Doc → W → Type 0) where
  pub places_push : (old mid new : P) (items : List (Result Doc E)) (item : Result Doc E) (rs : List (Option Refusal)) (r : Option Refusal)
      → PlacesAll holds old mid items rs → PlacesItem holds mid new item r → PlacesAll holds old new (items ++ item ∷ []) (rs ++ r ∷ [])
  places_push old mid new items item rs r all one = λ rules docs ws h.
      let a = all rules docs ws h in
      let b = one rules (docs_after rules docs items) ws a.1 in (
        ap₂ (λ xs x. xs ++ x ∷ []) a.0 b.0 ∙ sym (item_refusals-push rules docs items item),
        subst (λ ds. holds new rules ds ws) (sym (docs-push rules docs items item)) b.1,
      )

  pub holding_on : (old new : P) (item : Result Doc E) (r : Option Refusal) (n m : ℕ) → n ≡ m + 1 → IsHoldingFor holds old n → PlacesItem holds old new item r → IsHoldingFor holds new m
  holding_on old new item r n m e h one = record {
    rules = h.rules;
    docs = docs_with h.rules h.docs item;
    watches = h.watches;
    is = (one h.rules h.docs h.watches h.is).1;
    few = omega (arith, e, h.few, adds_one h.rules h.docs item);
  }

  pub placed_by : (old new : P) (items more : List (Result Doc E)) (rs ss : List (Option Refusal)) → more ≡ items → ss ≡ rs → PlacesAll holds old new items rs → PlacesAll holds old new more ss
  placed_by old new items more rs ss e f h = λ rules docs ws x.
      let p = h rules docs ws x in
      (f ∙ p.0 ∙ ap (λ xs. item_refusals rules docs xs) (sym e), subst (λ xs. holds new rules (docs_after rules docs xs) ws) (sym e) p.1)
