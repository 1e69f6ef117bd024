-- An office that is staffed on.
use Rattle.std.proofs.Common.{◌≡◌, ℕ, List, length, arith}
use Rattle.eb_base.specs.Document.{Doc}
use Rattle.eb_base.specs.Setting.{Setting}
use Rattle.eb_place.specs.Room.{cut}
use Rattle.run_index.specs.Conversions.{AreConverted, most_converted}
use Rattle.run_index.proofs.Conversions.{none_waits}

-- all segments but the last one are converted
pub closed_converted : (σ : Setting) (docs : List Doc) (n m : ℕ) → m ≡ n → n ≡ most_converted (length (cut σ docs)) → AreConverted σ docs m
closed_converted σ docs n m count most = none_waits σ docs m (omega (arith, count, most))
