-- Where each word of the index is.
use Rattle.std.specs.Prelude.{ℕ, zero, suc, ◌+◌, ◌*◌, ◌/◌, ◌%◌, ◌^◌, ◌<◌, List, [], ◌∷◌, get_or}
use Rattle.eb_base.specs.Setting.{Setting}

-- the parts of a segment, in order
pub data Region : Type 0 where
  first_region converted_region cell_region text_place_region tail_region text_region id_region pool_0 pool_1 pool_2 pool_3 directory_region packed_region : Region

-- which part of the segment it is, counted from 0
abbrev pub rank : Region → ℕ
rank first_region = 0
rank converted_region = 1
rank cell_region = 2
rank text_place_region = 3
rank tail_region = 4
rank text_region = 5
rank id_region = 6
rank pool_0 = 7
rank pool_1 = 8
rank pool_2 = 9
rank pool_3 = 10
rank directory_region = 11
rank packed_region = 12

-- the words of each region, in order: the first-document word, the converted word, cells, text
-- places, tails, text words, ids, the four pools, the directory, packed words
abbrev pub sizes : Setting → List ℕ
sizes σ = 1 ∷ 1 ∷ (2 * σ.terms) ∷ σ.terms ∷ σ.terms ∷ (4 * σ.terms) ∷ σ.docs ∷ (2 * σ.terms) ∷ (8 * σ.terms) ∷ (8 * σ.terms) ∷ (16 * σ.terms) ∷ σ.terms ∷ (34 * σ.terms) ∷ []

-- the words before region r, where these are the sizes
abbrev pub starts_at : List ℕ → ℕ → ℕ
starts_at [] r = 0
starts_at (n ∷ ns) zero = 0
starts_at (n ∷ ns) (suc r) = n + starts_at ns r

-- where a region begins in its segment
unfoldable pub start : Setting → Region → ℕ
start σ r = starts_at (sizes σ) (rank r)

-- how many words a region has
unfoldable pub size : Setting → Region → ℕ
size σ r = get_or (sizes σ) (rank r) 0

-- how many words a segment has
abbrev pub segment_words : Setting → ℕ
segment_words σ = 2 + σ.docs + 77 * σ.terms

-- a word: the count of accepted documents, or word i of a region of segment s
pub data Slot : Type 0 where
  published : Slot
  slot : ℕ → Region → ℕ → Slot

-- the place of a word: the count first, then the segments, one after the other
unfoldable pub place : Setting → Slot → ℕ
place σ published = 0
place σ (slot s r i) = 1 + s * segment_words σ + (start σ r + i)

-- ---- addresses of pool words

-- a slice of the pool has 2 to this power places: 2, 16, 128 and 2,048
abbrev pub slice_bits : ℕ → ℕ
slice_bits zero = 1
slice_bits (suc zero) = 4
slice_bits (suc (suc zero)) = 7
slice_bits (suc (suc (suc p))) = 11

-- how many slices a pool has
abbrev pub pool_slices : Setting → ℕ → ℕ
pool_slices σ zero = σ.terms
pool_slices σ (suc zero) = σ.terms / 2
pool_slices σ (suc (suc zero)) = σ.terms / 16
pool_slices σ (suc (suc (suc p))) = σ.terms / 128

-- the address of a place of a slice: the pool in the highest two of 32 bits, below it the place in
-- the pool
abbrev pub address_number : ℕ → ℕ → ℕ → ℕ
address_number pool slice offset = pool * 2 ^ 30 + slice * 2 ^ slice_bits pool + offset

-- the pool that an address names
abbrev pub address_pool : ℕ → ℕ
address_pool at = at / 2 ^ 30

-- the slice of that pool, by its number
abbrev pub address_slice : ℕ → ℕ
address_slice at = (at % 2 ^ 30) / 2 ^ slice_bits (address_pool at)

-- the offset in the slice of that pool
abbrev pub address_offset : ℕ → ℕ
address_offset at = at % 2 ^ slice_bits (address_pool at)

-- the words of a pool
abbrev pub pool_region : ℕ → Region
pool_region zero = pool_0
pool_region (suc zero) = pool_1
pool_region (suc (suc zero)) = pool_2
pool_region (suc (suc (suc p))) = pool_3

-- the address names a word of a pool
abbrev pub IsInPool : Setting → ℕ → Type 0
IsInPool σ at = at % 2 ^ 30 < size σ (pool_region (address_pool at))

-- the word of segment s that an address names
unfoldable pub pool_slot : ℕ → ℕ → Slot
pool_slot s at = slot s (pool_region (address_pool at)) (at % 2 ^ 30)
