-- How much of a segment is used at first.
use Rattle.std.proofs.Common.{ℕ, refl}
use Rattle.eb_base.specs.Setting.{Setting}
use Rattle.eb_place.specs.Postings.{terms_of, distinct}
use Rattle.eb_place.specs.Room.{cut}
use Rattle.eb_place.specs.Address.{begun_after}
use Rattle.eb_place.specs.Moments.{empty_moment, document_stores, placings_after}
use Rattle.eb_place.specs.Seen.{stores_in_region, entered, tokens_seen}
use Rattle.eb_place.specs.Tells.{TellsSegment}

-- where there is no document nothing of any segment is used
pub tells_nothing : (σ : Setting) (s : ℕ) → TellsSegment record { documents = 0; terms = 0; text = 0; pool0 = 0; pool1 = 0; pool2 = 0; pool3 = 0 } (empty_moment σ) s
unfolding entered tokens_seen stores_in_region document_stores placings_after cut terms_of distinct begun_after
tells_nothing σ s = record { documents = refl; terms = refl; text = refl; pool0 = refl; pool1 = refl; pool2 = refl; pool3 = refl }
