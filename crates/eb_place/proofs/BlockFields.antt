-- The size of a block, and its fields.
use Rattle.std.proofs.Common.{◌≡◌, ℕ, zero, suc, ◌+◌, ◌-◌, ◌*◌, ◌/◌, ◌^◌, ◌≤◌, List, [], ◌∷◌, ◌++◌, take, drop, length, fold, max, refl, ap, ◌∙◌, arith}
use Rattle.std.proofs.lemmas.List.{length-append, length-drop, length-take}
use Rattle.std.proofs.lemmas.Nat.{pow-add, mul-le}
use Rattle.eb_place.specs.Packed.{differences, width_of, fields, lowest_words, block_of, block, blocks}

pub length-lowest_words : (n x : ℕ) → length (lowest_words n x) ≡ n
length-lowest_words zero x = refl
length-lowest_words (suc n) x = ap suc (length-lowest_words n (x / 2 ^ 64))

-- a block has no more words than numbers
pub block_short : (width : ℕ) (xs : List ℕ) → width ≤ 64 → 1 ≤ length xs → length (block_of width xs) ≤ length xs
block_short width xs h l =
    let m = length-lowest_words (((length xs - 1) * width + 63) / 64) (fields width (differences xs)) in
    let p : (length xs - 1) * width ≤ (length xs - 1) * 64 = mul-le (length xs - 1) width (length xs - 1) 64 (omega arith) h in
    omega arith

-- a packed list has no more words than postings
pub packed_short : (n : ℕ) (xs : List ℕ) → length (blocks n xs) ≤ length xs
unfolding block
packed_short zero xs = omega arith
packed_short (suc n) [] = omega arith
packed_short (suc n) (x ∷ xs) = omega (
  arith,
  length-append (block (x ∷ take 127 xs)) (blocks n (drop 127 xs)),
  packed_short n (drop 127 xs),
  length-drop 127 xs,
  length-take 127 xs,
  block_short (width_of (fold max 0 (differences (x ∷ take 127 xs)))) (x ∷ take 127 xs) (omega arith) (omega arith),
)

-- one more field on top
pub fields_push : (width : ℕ) (xs : List ℕ) (x : ℕ) → fields width (xs ++ x ∷ []) ≡ fields width xs + 2 ^ (width * length xs) * x
fields_push width [] x = omega (arith, ap (λ k. 2 ^ k * x) (let e : width * 0 ≡ 0 = omega arith in e))
fields_push width (y ∷ ys) x =
    let ih = ap (λ n. 2 ^ width * n) (fields_push width ys x) in
    let e : width * suc (length ys) ≡ width + width * length ys = omega arith in
    let p : 2 ^ (width * suc (length ys)) * x ≡ 2 ^ width * 2 ^ (width * length ys) * x = ap (λ k. 2 ^ k * x) e ∙ ap (λ k. k * x) (pow-add 2 width (width * length ys)) in
    omega arith

-- the words of a number give it back
pub number_of : List ℕ → ℕ
number_of [] = 0
number_of (w ∷ ws) = w + 2 ^ 64 * number_of ws
