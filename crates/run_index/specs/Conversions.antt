-- Which segments are converted.
use Rattle.std.specs.Prelude.{ℕ, ◌+◌, ◌-◌, ◌<◌, List, length}
use Rattle.eb_base.specs.Document.{Doc}
use Rattle.eb_base.specs.Setting.{Setting}
use Rattle.eb_place.specs.Room.{cut}

-- each segment whose following segment has a document of the history is among the first n, which
-- are converted
pub record AreConverted (σ : Setting) (docs : List Doc) (n : ℕ) : Type 0 where
  pub each : (s : ℕ) → s + 1 < length (cut σ docs) → s < n

-- how many of the segments begun are converted when all that can be is: all but the last one
abbrev pub most_converted : ℕ → ℕ
most_converted begun = begun - 1
