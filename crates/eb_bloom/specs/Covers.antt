-- Which documents the filters cover.
use Rattle.std.specs.Prelude.{◌≡◌, ℕ, true, List, [], get_or, Contains}
use Rattle.eb_base.specs.Term.{Term}
use Rattle.eb_base.specs.Document.{Doc}
use Rattle.eb_base.specs.Setting.{Setting}
use Rattle.eb_place.specs.Room.{cut}
use Rattle.eb_bloom.specs.Bits.{Bits, is_noted}

-- they are those of this setting, and each term of each document is noted in the filter of the
-- document's segment
pub record Covers (b : Bits) (σ : Setting) (docs : List Doc) : Type 0 where
  pub setting : b.setting ≡ σ
  pub noted : (s : ℕ) (d : Doc) (t : Term) → Contains (get_or (cut σ docs) s []) d → Contains d.terms t → is_noted b s t ≡ true
