-- Fields as numbers, and words as fields of 64 bits.
use Rattle.std.proofs.Common.{◌≡◌, ℕ, zero, suc, ◌+◌, ◌*◌, ◌/◌, ◌%◌, ◌^◌, ◌<◌, List, [], ◌∷◌, length, refl, ap, sym, ◌∙◌, arith}
use Rattle.std.proofs.lemmas.Nat.{pow_pos, pow-add, same_from_place, mul-add-lt, div-mul-add, mod-mul-add}
use Rattle.eb_place.specs.Packed.{fields, lowest_words}
use Rattle.eb_place.specs.Falling.{AllBelow}

-- the fields of some numbers of w bits have w bits for each number
pub fields_below : (w : ℕ) (xs : List ℕ) → AllBelow (2 ^ w) xs → fields w xs < 2 ^ (w * length xs)
fields_below w [] h = pow_pos (w * 0)
fields_below w (x ∷ xs) h =
    let ih = fields_below w xs h.1 in
    let e : w * suc (length xs) ≡ w + w * length xs = omega arith in
    let p : 2 ^ (w * suc (length xs)) ≡ 2 ^ w * 2 ^ (w * length xs) = ap (λ k. 2 ^ k) e ∙ pow-add 2 w (w * length xs) in
    let m = mul-add-lt (fields w xs) (2 ^ w) x (2 ^ (w * length xs)) ih h.0 in
    omega arith

-- two sums of a field and what is above it are the same only where both parts are
pub same_parts : (w d x e y : ℕ) → d < 2 ^ w → e < 2 ^ w → d + 2 ^ w * x ≡ e + 2 ^ w * y → (d ≡ e) × (x ≡ y)
same_parts w d x e y hd he h =
    let k : x * 2 ^ w + d ≡ y * 2 ^ w + e = omega arith in
    let r = same_from_place x d y e (2 ^ w) hd he k in
    (r.1, r.0)

-- words are the lowest words of the number that they make
pub words_back : (ws : List ℕ) → AllBelow (2 ^ 64) ws → lowest_words (length ws) (fields 64 ws) ≡ ws
words_back [] h = refl
words_back (w ∷ ws) h =
    let x = fields 64 ws in
    let a : w + 2 ^ 64 * x ≡ x * 2 ^ 64 + w = omega arith in
    let m : (w + 2 ^ 64 * x) % 2 ^ 64 ≡ w = ap (λ k. k % 2 ^ 64) a ∙ mod-mul-add x (2 ^ 64) w h.0 in
    let d : (w + 2 ^ 64 * x) / 2 ^ 64 ≡ x = ap (λ k. k / 2 ^ 64) a ∙ div-mul-add x (2 ^ 64) w h.0 in
    ap (λ k. k ∷ lowest_words (length ws) ((w + 2 ^ 64 * x) / 2 ^ 64)) m ∙ ap (λ k. w ∷ lowest_words (length ws) k) d ∙ ap (λ k. w ∷ k) (words_back ws h.1)

-- a number of n words is what these make
pub number_back : (n x : ℕ) → x < 2 ^ (64 * n) → fields 64 (lowest_words n x) ≡ x
number_back zero x h = let z : x ≡ 0 = omega (arith, ap (λ k. 2 ^ k) (let e : 64 * 0 ≡ 0 = omega arith in e)) in sym z
number_back (suc n) x h =
    let e : 64 * suc n ≡ 64 + 64 * n = omega arith in
    let p : 2 ^ (64 * suc n) ≡ 2 ^ 64 * 2 ^ (64 * n) = ap (λ k. 2 ^ k) e ∙ pow-add 2 64 (64 * n) in
    let l : x / 2 ^ 64 < 2 ^ (64 * n) = Rattle.std.proofs.lemmas.Nat.div_below x (2 ^ 64) (2 ^ (64 * n)) (pow_pos 64) (omega arith) in
    let ih = ap (λ k. 2 ^ 64 * k) (number_back n (x / 2 ^ 64) l) in
    omega arith
