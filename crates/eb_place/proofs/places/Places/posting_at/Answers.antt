use Rattle.std.proofs.Common.{◌+◌, ◌/◌, ◌%◌, ◌^◌, ◌<◌, ap, arith}
use Rattle.eb_place.specs.Layout.{pool_region, start, segment_words}
use Rattle.eb_place.proofs.PlacesOfSlots.{offset_in}
use Rattle.eb_place.proofs.places.Places.posting_at.Goals as goal

pub word_at-requires-clause-offset : goal.word_at-requires-clause-offset
word_at-requires-clause-offset c =
    let σ = c.args.self.now in
    let at = c.args.address in
    let inside : start σ (pool_region (at / 2 ^ 30)) + at % 2 ^ 30 < segment_words σ = offset_in σ (pool_region (at / 2 ^ 30)) (at % 2 ^ 30) c.requires.address in
    omega (arith, inside, c.pool_start.ensures.start, ap (λ p. start σ (pool_region p)) c.pool_of.ensures)
