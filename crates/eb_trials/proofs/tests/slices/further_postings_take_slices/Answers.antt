use Rattle.std.proofs.Common.{refl}
use Rattle.eb_place.specs.Address.{pool_at, offset_at}
use Rattle.eb_trials.proofs.tests.slices.further_postings_take_slices.Goals as goal

pub needs-requires-3-clause-tail : goal.needs-requires-3-clause-tail
unfolding pool_at offset_at
needs-requires-3-clause-tail g c = (2, record { pool = refl; offset = refl })

pub needs-requires-4-clause-tail : goal.needs-requires-4-clause-tail
unfolding pool_at offset_at
needs-requires-4-clause-tail g c = (17, record { pool = refl; offset = refl })

pub needs-requires-5-clause-tail : goal.needs-requires-5-clause-tail
unfolding pool_at offset_at
needs-requires-5-clause-tail g c = (144, record { pool = refl; offset = refl })

pub needs-requires-6-clause-tail : goal.needs-requires-6-clause-tail
unfolding pool_at offset_at
needs-requires-6-clause-tail g c = (2191, record { pool = refl; offset = refl })
