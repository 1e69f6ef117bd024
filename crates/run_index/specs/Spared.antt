-- What the filters of an index spare a search.
use Rattle.std.specs.Prelude.{◌≡◌, ℕ, ◌<◌, Bool, true, List, length, get_or}
use Rattle.eb_base.specs.Document.{Doc}
use Rattle.eb_base.specs.Setting.{Setting}
use Rattle.eb_base.specs.Term.{Term}
use Rattle.eb_bloom.specs.Bits.{Bits, is_noted}
use Rattle.eb_engine.specs.Loads.{IsBoundedAlone}
use Rattle.eb_place.specs.Room.{cut}

-- a search of the word over this history that returned this many ids made no more loads than its
-- bound, which counts only the segments in whose filter the word is noted
pub record IsSpared (b : Bits) (σ : Setting) (docs : List Doc) (converted : ℕ) (t : Term) (ids before after : ℕ) : Type 0 where
  pub likely : List Bool
  pub noted : (s : ℕ) → s < length (cut σ docs) → get_or likely s true ≡ is_noted b s t
  pub loads : IsBoundedAlone likely σ docs converted t ids before after
