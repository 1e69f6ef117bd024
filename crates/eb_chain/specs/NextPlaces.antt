-- Where the next posting of a term goes, and the stores that come next.
use Rattle.std.specs.Prelude.{◌≡◌, ℕ, zero, suc, ◌+◌, ◌-◌, ◌*◌, ◌^◌, ◌<◌, ◌≤◌, true, false, List, [], ◌∷◌, Option, Some, None}
use Rattle.eb_base.specs.Document.{Doc}
use Rattle.eb_place.specs.declared.moment.Moment.{Moment}
use Rattle.eb_place.specs.declared.used.Used.{Used}
use Rattle.eb_place.specs.Layout.{pool_slot, address_number, slice_bits}
use Rattle.eb_place.specs.Address.{pool_at, offset_at, begins}
use Rattle.eb_place.specs.Placing.{Store}
use Rattle.eb_place.specs.NextStores.{after_store}
use Rattle.eb_chain.specs.declared.next_place.NextPlace.{NextPlace}

-- the slices of a pool that are used
abbrev pub slices_of : Used → ℕ → ℕ
slices_of u zero = u.pool0
slices_of u (suc zero) = u.pool1
slices_of u (suc (suc zero)) = u.pool2
slices_of u (suc (suc (suc p))) = u.pool3

-- with one more slice of a pool
abbrev pub with_slice : Used → ℕ → Used
with_slice u zero = record u { pool0 = u.pool0 + 1 }
with_slice u (suc zero) = record u { pool1 = u.pool1 + 1 }
with_slice u (suc (suc zero)) = record u { pool2 = u.pool2 + 1 }
with_slice u (suc (suc (suc p))) = record u { pool3 = u.pool3 + 1 }

-- where the posting that comes after f of its term begins a slice, its address has 32 bits
abbrev pub HasAddress : ℕ → Used → Type 0
HasAddress f u = begins f ≡ true → slices_of u (pool_at f) * 2 ^ slice_bits (pool_at f) + offset_at f < 2 ^ 30

-- the place of the posting that comes after f of its term, whose tail word is this: the next of its
-- slice, or the first of the next slice of the pool, which is linked to the last posting in the
-- pools 1 to 3
pub record IsNextPlace (f tail : ℕ) (u : Used) (r : NextPlace) : Type 0 where
  pub within : begins f ≡ false → (r.address ≡ tail) × (r.link ≡ None) × (r.used ≡ u)
  pub first : begins f ≡ true → (r.address ≡ address_number (pool_at f) (slices_of u (pool_at f)) (offset_at f)) × (r.used ≡ with_slice u (pool_at f))
  pub linked : begins f ≡ true → 1 ≤ pool_at f → r.link ≡ Some (tail - 1)
  pub unlinked : begins f ≡ true → pool_at f ≡ 0 → r.link ≡ None

-- the store of the link of the slice that begins with this address, where it has one
abbrev pub link_stores : ℕ → ℕ → Option ℕ → List Store
link_stores s at None = []
link_stores s at (Some last) = (pool_slot s (at - 1), last) ∷ []

-- the moment after that store
abbrev pub after_link : Moment → Doc → Option ℕ → Moment
after_link m d None = m
after_link m d (Some last) = after_store m d
