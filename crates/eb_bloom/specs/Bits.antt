-- The filters of an index's segments, and the two bits of a term in each.
--
-- The bits lie row by row: a row has one bit for each segment, and lies in one word. So two loads
-- tell of all segments in which of them a term is noted.
use Rattle.std.specs.Prelude.{◌≡◌, ℕ, zero, suc, ◌+◌, ◌*◌, ◌/◌, ◌%◌, ◌^◌, ◌==◌, ◌&&◌, nat_lt, if◌then◌else◌, Bool, List, length, get_or}
use Rattle.std.specs.Int.{bit_at}
use Rattle.eb_base.specs.Term.{Term}
use Rattle.eb_base.specs.Setting.{Setting, IsSetting}
use Rattle.eb_place.specs.Placing.{hash}

-- a setting, and the bits of all filters in words of 64, row after row
pub record Bits : Type 0 where
  pub setting : Setting
  pub words : List ℕ

-- a number doubled, at most k times, until it is at least n
unfoldable pub doubled : ℕ → ℕ → ℕ → ℕ
doubled zero lanes n = lanes
doubled (suc k) lanes n = doubled k (if nat_lt lanes n then lanes * 2 else lanes) n

-- the bits of a row: the segments of the setting, rounded up to a power of two
abbrev pub row_bits : Setting → ℕ
row_bits σ = doubled 6 1 σ.segments

-- the rows, and so the bits of each filter: four for each term that a segment has room for
abbrev pub filter_rows : Setting → ℕ
filter_rows σ = 4 * σ.terms

-- the words of all filters
abbrev pub filter_words : Setting → ℕ
filter_words σ = row_bits σ * (σ.terms / 16)

-- the hash of a term, mixed to 64 bits: multiplied by 2^64 over the golden ratio (multiplicative
-- hashing)
unfoldable pub mixed_hash : Term → ℕ
mixed_hash t = hash t * 11400714819323198485 % 2 ^ 64

-- the first row of a term: as far into the rows as the higher half of the mixed hash is into 2^32
abbrev pub first_row : Setting → Term → ℕ
first_row σ t = mixed_hash t / 2 ^ 32 * filter_rows σ / 2 ^ 32

-- the second one, among the same 64 rows: by the six bits of the mixed hash below that half
abbrev pub second_row : Setting → Term → ℕ
second_row σ t = first_row σ t / 64 * 64 + mixed_hash t / 2 ^ 26 % 64

-- the two bits of a term in the filter of a segment
abbrev pub first_bit : Setting → ℕ → Term → ℕ
first_bit σ s t = first_row σ t * row_bits σ + s

abbrev pub second_bit : Setting → ℕ → Term → ℕ
second_bit σ s t = second_row σ t * row_bits σ + s

-- whether a bit of the words is set
unfoldable pub is_set : List ℕ → ℕ → Bool
is_set words i = bit_at (get_or words (i / 64) 0) (i % 64) == 1

-- whether the term is noted in the filter of the segment
abbrev pub is_noted : Bits → ℕ → Term → Bool
is_noted b s t = is_set b.words (first_bit b.setting s t) && is_set b.words (second_bit b.setting s t)

-- the setting is allowed, and these are all words
pub record AreFilters (b : Bits) : Type 0 where
  pub setting : IsSetting b.setting
  pub number : length b.words ≡ filter_words b.setting
