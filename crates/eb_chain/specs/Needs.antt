-- Tail words, and the slices that further postings take.
use Rattle.std.specs.Prelude.{◌≡◌, ℕ, zero, suc, ◌+◌, ◌-◌, ◌*◌, ◌≤◌, if◌then◌else◌}
use Rattle.eb_place.specs.Layout.{address_pool, address_offset}
use Rattle.eb_place.specs.Address.{pool_at, offset_at, begins_in}
use Rattle.eb_place.specs.Room.{slices}
use Rattle.eb_chain.specs.declared.new_slices.NewSlices.{NewSlices}

-- an address with the pool and the offset of the posting that comes after f of its term
pub record HasPoolAndOffset (f at : ℕ) : Type 0 where
  pub pool : address_pool at ≡ pool_at f
  pub offset : address_offset at ≡ offset_at f

-- the tail word of a term with f postings: 0, or the address of the last plus 1
abbrev pub IsTailWord : ℕ → ℕ → Type 0
IsTailWord zero tail = tail ≡ 0
IsTailWord (suc f) zero = ⊥
IsTailWord (suc f) (suc at) = HasPoolAndOffset f at

-- the slices that n further postings take of a term with f postings
pub record TakesSlices (f n : ℕ) (new : NewSlices) : Type 0 where
  pub pool0 : new.pool0 ≡ slices 0 (f + n) - slices 0 f
  pub pool1 : new.pool1 ≡ slices 1 (f + n) - slices 1 f
  pub pool2 : new.pool2 ≡ slices 2 (f + n) - slices 2 f
  pub pool3 : new.pool3 ≡ slices 3 (f + n) - slices 3 f

-- the new slices of the posting that comes after f of its term: one of the pool where it begins one
pub record BeginsSlice (f : ℕ) (new : NewSlices) : Type 0 where
  pub pool0 : new.pool0 ≡ (if begins_in 0 f then 1 else 0)
  pub pool1 : new.pool1 ≡ (if begins_in 1 f then 1 else 0)
  pub pool2 : new.pool2 ≡ (if begins_in 2 f then 1 else 0)
  pub pool3 : new.pool3 ≡ (if begins_in 3 f then 1 else 0)

-- g is f, except for full slices of the last pool
pub record HasLike (f g : ℕ) : Type 0 where
  pub full : ℕ
  pub same : f ≡ g + 2047 * full
  pub last : 1 ≤ full → 144 ≤ g
