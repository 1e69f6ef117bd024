use Rattle.std.proofs.Common.{◌≡◌, ℕ, ◌%◌, ◌^◌, ◌*◌, ◌-◌, ◌<◌, ap, sym, ◌∙◌, arith}
use Rattle.std.specs.Int.Bits.{bit_and}
use Rattle.std.proofs.Math.Pow.{pow-lt}
use Rattle.std.proofs.lemmas.Nat.{and_mask}
use lib.Count.{count_trailing_zeros}
use Rattle.eb_terms.proofs.hashing.rest.Goals as goal

-- a power of two of a number of bits isn't cut
whole : (n : ℕ) → n < 2 ^ 32 → n % 2 ^ 32 ≡ n
whole n h = omega (arith, h)

pub returns-then-by-bits : goal.returns-then-by-bits
returns-then-by-bits c =
    let k = count_trailing_zeros 32 c.args.by in
    let small : 2 ^ k < 2 ^ 32 = pow-lt c.if-bits-lt32.true in
    let one : 1 * 2 ^ k ≡ 2 ^ k = omega arith in
    let same : 1 * 2 ^ k % 4294967296 ≡ 2 ^ k = ap (λ (x : ℕ). x % 4294967296) one ∙ whole (2 ^ k) small in
    ap (λ (x : ℕ). bit_and c.args.number (x - 1)) same ∙ and_mask c.args.number k
    ∙ ap (λ (x : ℕ). c.args.number % x) (sym (c.if-by-bits.true ∙ same))
