-- What the converter of a part did.
use Rattle.std.specs.Prelude.{◌≡◌, ℕ, ◌+◌, ◌<◌, ◌≤◌, length}
use mathlib.Core.List.{IsPrefix}
use Rattle.eb_base.specs.Setting.{Setting}
use Rattle.eb_engine.specs.Tokens.{ConverterToken}
use Rattle.eb_place.specs.Room.{cut}

-- it converted until there was nothing to convert: each segment whose following segment has a
-- document that it knew is converted
pub record HasConverted (σ : Setting) (old new : ConverterToken) : Type 0 where
  pub index : new.index ≡ old.index
  pub known : IsPrefix old.docs new.docs
  pub grown : old.converted ≤ new.converted
  pub converted : (s : ℕ) → s + 1 < length (cut σ old.docs) → s < new.converted
