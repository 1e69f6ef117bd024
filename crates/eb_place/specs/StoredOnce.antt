-- Each word but the count and the tails is stored at most once, and the count and the tails rise.
use Rattle.std.specs.Prelude.{◌≡◌, ℕ, ◌<◌, ◌≤◌, ◌==◌, List, ◌++◌, length, map, filter}
use Rattle.std.specs.List.Sorted.{IsStrictlyIncreasing}
use Rattle.eb_base.specs.Document.{Doc}
use Rattle.eb_base.specs.Setting.{Setting, IsSetting}
use Rattle.eb_place.specs.Layout.{place}
use Rattle.eb_place.specs.Layout.Slot.{published, slot}
use Rattle.eb_place.specs.Layout.Region.{tail_region}
use Rattle.eb_place.specs.Room.{cut, IsLawful}
use Rattle.eb_place.specs.Placing.{pairs_of}
use Rattle.eb_place.specs.Moments.{placings, conversions}

-- the stores that place a whole history and convert each of its segments: pairs of place and value
abbrev pub all_pairs : Setting → List Doc → List (ℕ × ℕ)
all_pairs σ docs = pairs_of σ (placings σ docs ++ conversions σ docs (length (cut σ docs)))

-- the values that are stored to a place, in order
abbrev pub values_at : ℕ → List (ℕ × ℕ) → List ℕ
values_at p xs = map (λ x. x.1) (filter (λ x. x.0 == p) xs)

-- each place but that of the count and those of the tails is stored at most once; the values stored
-- to the count rise, and so do those stored to each tail
pub record StoresOnce (σ : Setting) (docs : List Doc) : Type 0 where
  pub once : (p : ℕ) → (p ≡ place σ published → ⊥) → ((s k : ℕ) → s < σ.segments → k < σ.terms → p ≡ place σ (slot s tail_region k) → ⊥) → length (values_at p (all_pairs σ docs)) ≤ 1
  pub count : IsStrictlyIncreasing (values_at (place σ published) (all_pairs σ docs))
  pub tails : (s k : ℕ) → s < σ.segments → k < σ.terms → IsStrictlyIncreasing (values_at (place σ (slot s tail_region k)) (all_pairs σ docs))

-- stored once
abbrev pub StoredOnce : Type 0
StoredOnce = (σ : Setting) (docs : List Doc) → IsSetting σ → IsLawful σ docs → StoresOnce σ docs
