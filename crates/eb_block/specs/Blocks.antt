-- Lists that a block can hold, and words that begin with a block.
use Rattle.std.specs.Prelude.{◌≡◌, ℕ, ◌+◌, ◌*◌, ◌/◌, ◌^◌, ◌≤◌, List, ◌++◌, length}
use Rattle.eb_place.specs.Packed.{block}
use Rattle.eb_place.specs.Falling.{IsFalling, AllBelow}
use Rattle.eb_place.specs.Postings.{posting_bits}

-- 1 to 128 falling numbers that have the bits of a posting
pub record IsPackable (xs : List ℕ) : Type 0 where
  pub some : 1 ≤ length xs
  pub few : length xs ≤ 128
  pub falls : IsFalling xs
  pub small : AllBelow (2 ^ posting_bits) xs

-- the most words of a block: its header, and 127 differences of the bits of a posting
abbrev pub most_words : ℕ
most_words = 1 + (127 * posting_bits + 63) / 64

-- the words begin with the block of these numbers
pub record BeginsWith (words xs : List ℕ) : Type 0 where
  pub packable : IsPackable xs
  pub rest : List ℕ
  pub is : words ≡ block xs ++ rest
