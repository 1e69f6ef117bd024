-- What the header and the words of a block say.
use Rattle.std.proofs.Common.{◌≡◌, ℕ, ◌+◌, ◌-◌, ◌*◌, ◌/◌, ◌%◌, ◌^◌, ◌<◌, ◌≤◌, List, [], ◌∷◌, ◌++◌, take, drop, length, get_or, set, fold, max, refl, ap, sym, ◌∙◌, subst, arith}
use Rattle.std.proofs.lemmas.List.{length-take}
use Rattle.std.proofs.lemmas.Nat.{mul-le}
use Rattle.std.proofs.Math.Pow.{pow_mono}
use Rattle.eb_place.specs.Packed.{differences, width_of, fields, lowest_words, block}
use Rattle.eb_place.specs.Falling.{AllBelow}
use Rattle.eb_block.specs.Fields.{IsHeld, HoldsFields, DrawsFrom, Poured}
use Rattle.eb_place.specs.Postings.{posting_bits}
use Rattle.eb_block.specs.Blocks.{most_words, IsPackable, BeginsWith}
use Rattle.eb_block.specs.declared.bits.Bits.{Bits}
use Rattle.eb_place.proofs.BlockFields.{length-lowest_words}
use Rattle.eb_block.proofs.Numbers.{fields_below, number_back}
use Rattle.eb_block.proofs.Differences.{length-differences, is_width}

-- the width of the block of a list
abbrev pub width_in : List ℕ → ℕ
width_in xs = width_of (fold max 0 (differences xs))

-- its header
abbrev pub header_in : List ℕ → ℕ
header_in xs = get_or xs 0 0 * 2 ^ 16 + width_in xs * 2 ^ 8 + length xs

-- its other words
abbrev pub body_in : List ℕ → List ℕ
body_in xs = lowest_words (((length xs - 1) * width_in xs + 63) / 64) (fields (width_in xs) (differences xs))

pub block_is : (xs : List ℕ) → block xs ≡ header_in xs ∷ body_in xs
unfolding block
block_is xs = refl

-- the header read
pub record IsHeader (h : ℕ) (xs : List ℕ) : Type 0 where
  pub count : h % 2 ^ 8 ≡ length xs
  pub width : h / 2 ^ 8 % 2 ^ 8 ≡ width_in xs
  pub posting : h / 2 ^ 16 ≡ get_or xs 0 0
  pub small : h < 2 ^ (16 + posting_bits)
  pub narrow : width_in xs ≤ posting_bits
  pub fits : AllBelow (2 ^ width_in xs) (differences xs)

head_below : (n : ℕ) (xs : List ℕ) → AllBelow n xs → 1 ≤ n → get_or xs 0 0 < n
head_below n [] a l = l
head_below n (x ∷ xs) a l = a.0

pub header_read : (xs : List ℕ) → IsPackable xs → IsHeader (header_in xs) xs
header_read xs p =
    let w = is_width xs p.small in
    let few = p.few in
    let narrow = w.few in
    let b = head_below (2 ^ posting_bits) xs p.small (omega arith) in
    let W = width_in xs in
    record { count = omega arith; width = omega arith; posting = omega arith; small = omega arith; narrow = narrow; fits = w.holds }

-- the body holds the differences
pub body_holds : (xs : List ℕ) (b : Bits) → IsPackable xs → IsHeld b → b.low ≡ 0 → b.count ≡ 0 → HoldsFields (width_in xs) b (body_in xs) (differences xs)
body_holds xs b p held low count =
    let W = width_in xs in
    let ds = differences xs in
    let w = is_width xs p.small in
    let n = ((length xs - 1) * W + 63) / 64 in
    let len = length-lowest_words n (fields W ds) in
    let ld = length-differences xs in
    let m : length ds * W ≡ (length xs - 1) * W = ap (λ k. k * W) ld in
    let u : W * length ds ≤ 64 * n = omega arith in
    let big : fields W ds < 2 ^ (64 * n) = omega (arith, fields_below W ds w.holds, pow_mono u) in
    let back = number_back n (fields W ds) big in
    let o = ap (λ k. 2 ^ k) count in
    let s : b.low + 2 ^ b.count * fields 64 (body_in xs) ≡ fields W ds = ap (λ k. k + 2 ^ b.count * fields 64 (body_in xs)) low ∙ ap (λ k. 0 + k * fields 64 (body_in xs)) o ∙ (omega arith) in
    record { held = held; small = w.holds; enough = omega arith; sum = s }

-- the words that begin with a block
pub record IsOpened (words xs : List ℕ) : Type 0 where
  pub inside : 0 < length words
  pub header : IsHeader (get_or words 0 0) xs
  pub draws : (b : Bits) → IsHeld b → b.low ≡ 0 → b.count ≡ 0 → DrawsFrom (width_in xs) words 1 b (differences xs)

pub opened : (words xs : List ℕ) → BeginsWith words xs → IsOpened words xs
opened words xs h =
    let e : words ≡ header_in xs ∷ (body_in xs ++ h.rest) = h.is ∙ ap (λ zs. zs ++ h.rest) (block_is xs) in
    record {
      inside = omega (arith, ap length e);
      header = subst (λ k. IsHeader k xs) (sym (ap (λ zs. get_or zs 0 0) e)) (header_read xs h.packable);
      draws = λ b held low count. record { left = body_in xs; rest = h.rest; are = ap (drop 1) e; holds = body_holds xs b h.packable held low count };
    }

-- the header alone is written
pub poured_none : (w header : ℕ) (into : List ℕ) (b : Bits) → 0 < length into → IsHeld b → b.low ≡ 0 → b.count ≡ 0 → Poured w header (set into 0 header) 1 b []
poured_none w header [] b l held low count = absurd (omega arith)
poured_none w header (x ∷ into) b l held low count = record { held = held; words = []; small = tt; inside = omega arith; written = refl; many = omega arith; sum = omega arith }

-- the next word is in the array
pub at_below : (w header : ℕ) (into : List ℕ) (at : ℕ) (b : Bits) (numbers : List ℕ) → Poured w header into at b numbers → w ≤ posting_bits → length numbers ≤ 127 → at < most_words
at_below w header into at b numbers h l few =
    let many : length numbers * w ≡ b.count + 64 * length h.words = h.many in
    let m : length numbers * w ≤ 127 * posting_bits = mul-le (length numbers) w 127 posting_bits few l in
    let len = ap length h.written in
    let inside = h.inside in
    omega (arith, length-take at into)

-- the block has no more words than postings
pub block_few : (n : ℕ) (into xs : List ℕ) → take n into ≡ block xs → n ≤ length into → IsPackable xs → n ≤ length xs
block_few n into xs e l p =
    let w = is_width xs p.small in
    let narrow = w.few in
    let s = Rattle.eb_place.proofs.BlockFields.block_short (width_in xs) xs (omega arith) p.some in
    omega (arith, length-take n into, ap length (e ∙ block_is xs), s)
