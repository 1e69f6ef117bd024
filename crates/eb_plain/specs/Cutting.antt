-- Where a history is cut.
use Rattle.std.specs.Prelude.{◌≡◌, ℕ, List, [], ◌∷◌, ◌++◌, length, map, drop}
use Rattle.eb_base.specs.Document.{Doc}
use Rattle.eb_base.specs.Setting.{Setting}
use Rattle.eb_place.specs.Room.{cut}

-- the history is cut into closed segments of these lengths, and a last one that begins at `start`
pub record IsCutAt (σ : Setting) (docs : List Doc) (closed : List ℕ) (start : ℕ) : Type 0 where
  pub earlier : List (List Doc)
  pub cut : cut σ docs ≡ earlier ++ drop start docs ∷ []
  pub lengths : closed ≡ map length earlier
