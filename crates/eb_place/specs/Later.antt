-- Which moments come after which.
use Rattle.std.specs.Prelude.{◌≡◌, ℕ, ◌<◌, ◌≤◌, ◌⊎◌, List, [], ◌∷◌, ◌++◌, Option, Some, None}
use mathlib.Core.List.{IsPrefix}
use Rattle.eb_base.specs.Document.{Doc}
use Rattle.eb_place.specs.declared.moment.Documents.{Documents}
use Rattle.eb_place.specs.declared.moment.Conversions.{Conversions}
use Rattle.eb_place.specs.declared.moment.Moment.{Moment}

-- the same document is being placed, with at least as many stores done
abbrev pub Further : Doc × ℕ → Option (Doc × ℕ) → Type 0
Further c None = ⊥
Further c (Some e) = (c.0 ≡ e.0) × (c.1 ≤ e.1)

-- the document that is being placed after a history is still being placed, or is accepted after
-- that history
abbrev pub Goes : List Doc → Option (Doc × ℕ) → Documents → Type 0
Goes docs None b = Unit {0}
Goes docs (Some c) b = ((docs ≡ b.accepted) × Further c b.current) ⊎ IsPrefix (docs ++ c.0 ∷ []) b.accepted

-- the second documents are reached from the first by zero or more stores of placings
pub record Reaches (a b : Documents) : Type 0 where
  pub accepted : IsPrefix a.accepted b.accepted
  pub current : Goes a.accepted a.current b

-- the second conversions are reached from the first by zero or more stores
abbrev pub ReachesPacked : Conversions → Conversions → Type 0
ReachesPacked a b = (a.converted < b.converted) ⊎ ((a.converted ≡ b.converted) × (a.packed ≤ b.packed))

-- n is m or a later moment of the same setting
pub record IsNotBefore (n m : Moment) : Type 0 where
  pub setting : m.setting ≡ n.setting
  pub documents : Reaches m.documents n.documents
  pub conversions : ReachesPacked m.conversions n.conversions
