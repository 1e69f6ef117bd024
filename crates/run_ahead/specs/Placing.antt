-- What adds many documents to a store at once, where a run gets it.
use Rattle.std.specs.Prelude.{◌≡◌, List, [], length, Option, Result, IfOk, OnErr}
use Rattle.std.specs.declared.vec.Vec.{Vec}
use denote.Ref.{Bor, MutBor}
use Rattle.run_store.specs.Rules.{Rules}
use Rattle.run_store.specs.Stores.{Keeps}
use Rattle.eb_base.specs.Document.{Doc}
use Rattle.eb_lines.specs.declared.refusal.Refusal.{Refusal}
use Rattle.run_ahead.specs.Placed.{IsHoldingFor, PlacesAll}

-- it may be called on a store with room for this many documents; it adds those among the items, or
-- the store holds what it held
pub record PlacesTogether {P W F E A N : Type 0} (holds : P → Rules W → List Doc → W → Type 0) (pre : F → MutBor P → Bor (List (Result Doc E)) → Type 0)
    (post : F → MutBor P → Bor (List (Result Doc E)) → Result (Vec (Option Refusal) A) N → MutBor P → Type 0) (place_all : F) : Type 0 where
  pub may : (store : MutBor P) (items : Bor (List (Result Doc E))) → IsHoldingFor holds store.now (length items.now) → pre place_all store items
  pub ok : (store after : MutBor P) (items : Bor (List (Result Doc E))) (r : Result (Vec (Option Refusal) A) N) → post place_all store items r after
      → IfOk r (λ refusals. PlacesAll holds store.now after.now items.now refusals.items)
  pub err : (store after : MutBor P) (items : Bor (List (Result Doc E))) (r : Result (Vec (Option Refusal) A) N) → post place_all store items r after → OnErr r (Keeps holds store.now after.now)

-- no document matches a watch
abbrev pub TellsNone : {P W : Type 0} → (P → Rules W → List Doc → W → Type 0) → Type 0
TellsNone {P} {W} holds = (s : P) (rules : Rules W) (docs : List Doc) (ws : W) → holds s rules docs ws → (d : Doc) → rules.tells ws d ≡ []
