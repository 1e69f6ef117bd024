-- One field written: to the bits, or to the bits and a whole word; and the end.
use Rattle.std.proofs.Common.{◌≡◌, ℕ, ◌+◌, ◌*◌, ◌/◌, ◌^◌, ◌<◌, ◌≤◌, List, [], ◌∷◌, ◌++◌, take, length, set, ap, sym, ◌∙◌, arith, length-set}
use Rattle.std.proofs.lemmas.List.{length_push, take_more_set}
use Rattle.std.proofs.lemmas.Nat.{pow-add}
use Rattle.eb_place.specs.Packed.{fields, lowest_words}
use Rattle.eb_place.proofs.BlockFields.{fields_push}
use Rattle.eb_place.specs.Falling.{AllBelow}
use Rattle.eb_block.specs.Fields.{IsHeld, Poured}
use Rattle.eb_block.specs.declared.bits.Bits.{Bits}
use Rattle.eb_block.proofs.Numbers.{words_back}

pub below_push : (n : ℕ) (xs : List ℕ) (x : ℕ) → AllBelow n xs → x < n → AllBelow n (xs ++ x ∷ [])
below_push n [] x h l = (l, tt)
below_push n (y ∷ ys) x h l = (h.0, below_push n ys x h.1 l)

-- where the fields so far end, as a power
edge : (w many count whole : ℕ) → many * w ≡ count + 64 * whole → 2 ^ (w * many) ≡ 2 ^ (64 * whole) * 2 ^ count
edge w many count whole e = ap (λ k. 2 ^ k) (let q : w * many ≡ 64 * whole + count = omega arith in q) ∙ pow-add 2 (64 * whole) count

pub pour_with : (w header : ℕ) (into : List ℕ) (at : ℕ) (b c : Bits) (numbers : List ℕ) (field : ℕ) → Poured w header into at b numbers → IsHeld c → c.low ≡ b.low + 2 ^ b.count * field
    → c.count ≡ b.count + w → Poured w header into at c (numbers ++ field ∷ [])
pour_with w header into at b c numbers field h held e k =
    let L = 2 ^ (64 * length h.words) in
    let many : length numbers * w ≡ b.count + 64 * length h.words = h.many in
    let s : fields 64 h.words + L * b.low ≡ fields w numbers = h.sum in
    let p : 2 ^ (w * length numbers) * field ≡ L * 2 ^ b.count * field = ap (λ n. n * field) (edge w (length numbers) b.count (length h.words) many) in
    let a : fields 64 h.words + L * c.low ≡ fields 64 h.words + L * (b.low + 2 ^ b.count * field) = ap (λ n. fields 64 h.words + L * n) e in
    let len = length_push numbers field in
    let m : length (numbers ++ field ∷ []) * w ≡ length numbers * w + w = ap (λ n. n * w) len ∙ (omega arith) in
    record { held = held; words = h.words; small = h.small; inside = h.inside; written = h.written; many = omega arith; sum = omega (arith, fields_push w numbers field) }

pub pour_over : (w header : ℕ) (into : List ℕ) (at : ℕ) (b c : Bits) (numbers : List ℕ) (field x : ℕ) → Poured w header into at b numbers → IsHeld c
    → x + 2 ^ 64 * c.low ≡ b.low + 2 ^ b.count * field → c.count + 64 ≡ b.count + w
    → x < 2 ^ 64 → at < length into → Poured w header (set into at x) (at + 1) c (numbers ++ field ∷ [])
pour_over w header into at b c numbers field x h held e k small l =
    let words = h.words in
    let L = 2 ^ (64 * length words) in
    let many : length numbers * w ≡ b.count + 64 * length words = h.many in
    let s : fields 64 words + L * b.low ≡ fields w numbers = h.sum in
    let p : 2 ^ (w * length numbers) * field ≡ L * 2 ^ b.count * field = ap (λ n. n * field) (edge w (length numbers) b.count (length words) many) in
    let f = fields_push 64 words x in
    let len' = length_push words x in
    let q : 2 ^ (64 * length (words ++ x ∷ [])) ≡ L * 2 ^ 64 = ap (λ n. 2 ^ n) (let z : 64 * length (words ++ x ∷ []) ≡ 64 * length words + 64 = omega arith in z) ∙ pow-add 2 (64 * length words) 64 in
    let r : 2 ^ (64 * length (words ++ x ∷ [])) * c.low ≡ L * 2 ^ 64 * c.low = ap (λ n. n * c.low) q in
    let a : L * (x + 2 ^ 64 * c.low) ≡ L * (b.low + 2 ^ b.count * field) = ap (λ n. L * n) e in
    let len = length_push numbers field in
    let m : length (numbers ++ field ∷ []) * w ≡ length numbers * w + w = ap (λ n. n * w) len ∙ (omega arith) in
    record {
      held = held;
      words = words ++ x ∷ [];
      small = below_push _ words x h.small small;
      inside = omega (arith, length-set into at x);
      written = take_more_set into at x l ∙ ap (λ zs. zs ++ x ∷ []) h.written;
      many = omega arith;
      sum = omega (arith, fields_push w numbers field);
    }

-- without bits the words are whole
pub close_whole : (w header : ℕ) (into : List ℕ) (at : ℕ) (b : Bits) (numbers : List ℕ) → Poured w header into at b numbers → b.count ≡ 0
    → take at into ≡ header ∷ lowest_words ((length numbers * w + 63) / 64) (fields w numbers)
close_whole w header into at b numbers h z =
    let words = h.words in
    let many : length numbers * w ≡ b.count + 64 * length words = h.many in
    let l : b.low < 2 ^ b.count = h.held.small in
    let o = ap (λ n. 2 ^ n) z in
    let low : b.low ≡ 0 = omega arith in
    let s = sym (h.sum) ∙ ap (λ n. fields 64 words + 2 ^ (64 * length words) * n) low in
    let e : fields w numbers ≡ fields 64 words = omega arith in
    let n : (length numbers * w + 63) / 64 ≡ length words = omega arith in
    h.written ∙ ap (λ zs. header ∷ zs) (sym (words_back words h.small) ∙ ap (λ k. lowest_words (length words) k) (sym e) ∙ ap (λ k. lowest_words k (fields w numbers)) (sym n))

-- the bits are the last word
pub close_bits : (w header : ℕ) (into : List ℕ) (at : ℕ) (b : Bits) (numbers : List ℕ) → Poured w header into at b numbers → 1 ≤ b.count → b.low < 2 ^ 64 → at < length into
    → take (at + 1) (set into at b.low) ≡ header ∷ lowest_words ((length numbers * w + 63) / 64) (fields w numbers)
close_bits w header into at b numbers h z l i =
    let words = h.words in
    let all = words ++ b.low ∷ [] in
    let many : length numbers * w ≡ b.count + 64 * length words = h.many in
    let few = h.held.few in
    let len = length_push words b.low in
    let e : fields w numbers ≡ fields 64 all = sym (h.sum) ∙ sym (fields_push 64 words b.low) in
    let n : (length numbers * w + 63) / 64 ≡ length all = omega arith in
    take_more_set into at b.low i ∙ ap (λ zs. zs ++ b.low ∷ []) h.written
    ∙ ap (λ zs. header ∷ zs) (sym (words_back all (below_push _ words b.low h.small l)) ∙ ap (λ k. lowest_words (length all) k) (sym e) ∙ ap (λ k. lowest_words k (fields w numbers)) (sym n))
