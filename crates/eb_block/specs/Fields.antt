-- Fields of a fixed width in words of 64 bits, lowest bits first, while they are read and written.
use Rattle.std.specs.Prelude.{◌≡◌, ℕ, ◌+◌, ◌*◌, ◌^◌, ◌<◌, ◌≤◌, List, ◌∷◌, ◌++◌, length, take, drop}
use Rattle.eb_place.specs.Packed.{fields}
use Rattle.eb_place.specs.Falling.{AllBelow}
use Rattle.eb_block.specs.declared.bits.Bits.{Bits}

-- the bits are those of a number of `count` bits, fewer than a word has
pub record IsHeld (b : Bits) : Type 0 where
  pub few : b.count < 64
  pub small : b.low < 2 ^ b.count

-- a number is a field of this width and, above it, what is left
pub record IsField (width all field left : ℕ) : Type 0 where
  pub small : field < 2 ^ width
  pub sum : all ≡ field + 2 ^ width * left

-- the bits, and above them the words that weren't read yet, hold these fields
pub record HoldsFields (width : ℕ) (b : Bits) (words numbers : List ℕ) : Type 0 where
  pub held : IsHeld b
  pub small : AllBelow (2 ^ width) numbers
  pub enough : length numbers * width ≤ b.count + 64 * length words
  pub sum : b.low + 2 ^ b.count * fields 64 words ≡ fields width numbers

-- the fields of these numbers are those of the bits, and of the words at `at` and after it
pub record DrawsFrom (width : ℕ) (words : List ℕ) (at : ℕ) (b : Bits) (numbers : List ℕ) : Type 0 where
  pub left : List ℕ
  pub rest : List ℕ
  pub are : drop at words ≡ left ++ rest
  pub holds : HoldsFields width b left numbers

-- after the header the array holds the fields of these numbers: whole words up to `at`, then the
-- bits
pub record Poured (width header : ℕ) (into : List ℕ) (at : ℕ) (b : Bits) (numbers : List ℕ) : Type 0 where
  pub held : IsHeld b
  pub words : List ℕ
  pub small : AllBelow (2 ^ 64) words
  pub inside : at ≤ length into
  pub written : take at into ≡ header ∷ words
  pub many : length numbers * width ≡ b.count + 64 * length words
  pub sum : fields 64 words + 2 ^ (64 * length words) * b.low ≡ fields width numbers
