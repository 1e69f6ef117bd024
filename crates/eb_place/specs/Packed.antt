-- Packed blocks.
use Rattle.std.specs.Prelude.{ℕ, zero, suc, ◌+◌, ◌-◌, ◌*◌, ◌/◌, ◌%◌, ◌^◌, List, [], ◌∷◌, ◌++◌, length, take, drop, fold, max, reverse, slice_index}
use Rattle.std.specs.Int.{leading_zeros, w64}
use Rattle.eb_base.specs.Term.{Term}
use Rattle.eb_base.specs.Document.{Doc}
use Rattle.eb_place.specs.Postings.{postings}

-- each number less the next
abbrev pub differences : List ℕ → List ℕ
differences [] = []
differences (x ∷ []) = []
differences (x ∷ y ∷ ys) = (x - y) ∷ differences (y ∷ ys)

-- the least number of bits that holds a number below 2 ^ 64
abbrev pub width_of : ℕ → ℕ
width_of n = 64 - leading_zeros w64 n

-- fields of `width` bits, the first lowest
abbrev pub fields : ℕ → List ℕ → ℕ
fields width [] = 0
fields width (x ∷ xs) = x + 2 ^ width * fields width xs

-- the lowest n words of a number
abbrev pub lowest_words : ℕ → ℕ → List ℕ
lowest_words zero x = []
lowest_words (suc n) x = (x % 2 ^ 64) ∷ lowest_words n (x / 2 ^ 64)

-- a header with the first number, the width and how many they are; then the differences
abbrev pub block_of : ℕ → List ℕ → List ℕ
block_of width xs = (slice_index xs 0 * 2 ^ 16 + width * 2 ^ 8 + length xs)
    ∷ lowest_words (((length xs - 1) * width + 63) / 64) (fields width (differences xs))

-- the block of 1 to 128 falling postings, with the least width that holds each difference
unfoldable pub block : List ℕ → List ℕ
block xs = block_of (width_of (fold max 0 (differences xs))) xs

-- blocks of 128 from the start; as many turns as elements are enough
abbrev pub blocks : ℕ → List ℕ → List ℕ
blocks zero xs = []
blocks (suc n) [] = []
blocks (suc n) (x ∷ xs) = block (take 128 (x ∷ xs)) ++ blocks n (drop 128 (x ∷ xs))

-- the blocks of a falling list, one after the other
unfoldable pub packed_list : List ℕ → List ℕ
packed_list xs = blocks (length xs) xs

-- the packed list of a term: its postings from the newest on, in blocks
abbrev pub packed : Term → List Doc → List ℕ
packed t seg = packed_list (reverse (postings t seg))
