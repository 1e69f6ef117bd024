use Rattle.std.proofs.Common.{◌+◌, ◌-◌, ◌<◌, ◌≤◌, ◌^◌, refl, subst, arith, None}
use Rattle.eb_place.specs.Layout.{address_pool, address_offset, slice_bits}
use Rattle.eb_chain.proofs.Likes.{tail_small}
use Rattle.eb_chain.proofs.Following.{IsPoolAfter, next_first, first_room, next_within, next_slice, slice_room, last_low, room_small, after_low}
use Rattle.eb_chain.proofs.next_place.next_place.Goals as goal

pub first_of_slice-requires-clause-address : goal.first_of_slice-requires-clause-address
first_of_slice-requires-clause-address c = let r = c.requires in first_room r.0 c.args.tail c.args.used c.if-tail-eq0.true r.1 r.2

pub returns-then-tail-eq0 : goal.returns-then-tail-eq0
returns-then-tail-eq0 c f h room =
    next_first f c.args.tail c.args.used c.first_of_slice.result c.if-tail-eq0.true h c.first_of_slice.ensures.address c.first_of_slice.ensures.link c.first_of_slice.ensures.used

pub overflow_cast-last : goal.overflow_cast-last
overflow_cast-last c = let small = tail_small c.requires.0 c.args.tail (omega arith) c.requires.1 in omega (arith, small)

pub places_in-requires : goal.places_in-requires
places_in-requires c = let low = last_low c.requires.0 c.args.tail (omega arith) c.requires.1 in omega (arith, low, c.pool_of-pool.ensures)

pub overflow_add-result : goal.overflow_add-result
overflow_add-result c =
    let low = last_low c.requires.0 c.args.tail (omega arith) c.requires.1 in
    let left : address_offset (c.args.tail - 1) + 1 < 2 ^ slice_bits (address_pool (c.args.tail - 1)) =
    subst (λ k. address_offset (c.args.tail - 1) + 1 < 2 ^ slice_bits k) c.pool_of-pool.ensures (omega (arith, c.if-offset_of-places_in.true, c.offset_of.ensures, c.places_in.ensures)) in
    let small = room_small (c.args.tail - 1) low left in
    omega (arith, small)

pub returns-then-offset_of-places_in : goal.returns-then-offset_of-places_in
returns-then-offset_of-places_in c f h room =
    let left : address_offset (c.args.tail - 1) + 1 < 2 ^ slice_bits (address_pool (c.args.tail - 1)) =
    subst (λ k. address_offset (c.args.tail - 1) + 1 < 2 ^ slice_bits k) c.pool_of-pool.ensures (omega (arith, c.if-offset_of-places_in.true, c.offset_of.ensures, c.places_in.ensures)) in
    next_within f c.args.tail c.args.used record { address = c.args.tail - 1 + 1; link = None; used = c.args.used } (omega arith) h left (omega arith) refl refl

pub pool_after-requires : goal.pool_after-requires
pool_after-requires c = let low = last_low c.requires.0 c.args.tail (omega arith) c.requires.1 in omega (arith, low, c.pool_of-pool.ensures)

pub first_of_slice-requires-2-clause-pool : goal.first_of_slice-requires-2-clause-pool
first_of_slice-requires-2-clause-pool c =
    let low = last_low c.requires.0 c.args.tail (omega arith) c.requires.1 in
    let p : c.pool_of-pool.result < 4 = omega (arith, low, c.pool_of-pool.ensures) in
    after_low c.pool_of-pool.result c.pool_after.result p (record { three = c.pool_after.ensures.three; next = c.pool_after.ensures.next })

pub first_of_slice-requires-2-clause-address : goal.first_of_slice-requires-2-clause-address
first_of_slice-requires-2-clause-address c =
    let r = c.requires in
    let full : 2 ^ slice_bits (address_pool (c.args.tail - 1)) ≤ address_offset (c.args.tail - 1) + 1 =
    subst (λ k. 2 ^ slice_bits k ≤ address_offset (c.args.tail - 1) + 1) c.pool_of-pool.ensures (omega (arith, c.if-offset_of-places_in.false, c.offset_of.ensures, c.places_in.ensures)) in
    let after : IsPoolAfter (address_pool (c.args.tail - 1)) c.pool_after.result =
    subst (λ k. IsPoolAfter k c.pool_after.result) c.pool_of-pool.ensures (record { three = c.pool_after.ensures.three; next = c.pool_after.ensures.next }) in
    slice_room r.0 c.args.tail c.pool_after.result c.args.used (omega arith) r.1 full after r.2

pub returns : goal.returns
returns c f h room =
    let full : 2 ^ slice_bits (address_pool (c.args.tail - 1)) ≤ address_offset (c.args.tail - 1) + 1 =
    subst (λ k. 2 ^ slice_bits k ≤ address_offset (c.args.tail - 1) + 1) c.pool_of-pool.ensures (omega (arith, c.if-offset_of-places_in.false, c.offset_of.ensures, c.places_in.ensures)) in
    let after : IsPoolAfter (address_pool (c.args.tail - 1)) c.pool_after.result =
    subst (λ k. IsPoolAfter k c.pool_after.result) c.pool_of-pool.ensures (record { three = c.pool_after.ensures.three; next = c.pool_after.ensures.next }) in
    next_slice f c.args.tail c.pool_after.result c.args.used c.first_of_slice-2.result
    (omega arith) h full after c.first_of_slice-2.ensures.address c.first_of_slice-2.ensures.link c.first_of_slice-2.ensures.used
