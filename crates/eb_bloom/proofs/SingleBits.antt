-- A bit that is set in words, and the other ones; and the bits of the rest of a word.
use Rattle.std.proofs.Common.{◌≡◌, ◌≢◌, ℕ, ◌+◌, ◌*◌, ◌/◌, ◌%◌, ◌^◌, ◌<◌, ◌==◌, ◌||◌, Bool, true, false, List, length, get_or, set, refl, ap, sym, ◌∙◌, arith, inl, inr}
use Rattle.std.specs.Int.{bit_at, w64}
use Rattle.std.specs.Int.RustNames.{bit_or}
use Rattle.std.proofs.lemmas.Bool.Decides.{eqb_tells}
use Rattle.std.proofs.lemmas.List.{get_or-set_same, get_or-set_other}
use Rattle.std.proofs.lemmas.Nat.{shr-shr}
use Rattle.std.proofs.lemmas.Nat.Bits.{bit_at_set_same, bit_at_set_other}
use Rattle.eb_bloom.specs.Bits.{is_set}
use Rattle.eb_marks.specs.Members.{has_mark}

pub or_true : (b : Bool) → (b || true) ≡ true
or_true true = refl
or_true false = refl

pub or_false : (b : Bool) → (b || false) ≡ b
or_false true = refl
or_false false = refl

-- a bit of the rest of a word
pub bit_from : (words : List ℕ) (b s : ℕ) → b % 64 + s < 64 → has_mark (get_or words (b / 64) 0 / 2 ^ (b % 64)) s ≡ is_set words (b + s)
unfolding is_set
bit_from words b s low =
    let word : (b + s) / 64 ≡ b / 64 = omega (arith, low) in
    let rest : (b + s) % 64 ≡ b % 64 + s = omega (arith, low) in
    ap (λ z. z % 2 == 1) (shr-shr (get_or words (b / 64) 0) (b % 64) s)
    ∙ ap (λ z. bit_at (get_or words (b / 64) 0) z == 1) (sym rest)
    ∙ ap (λ z. bit_at (get_or words z 0) ((b + s) % 64) == 1) (sym word)

-- the word with one bit more
abbrev pub with_bit : List ℕ → ℕ → ℕ
with_bit words b = bit_or (get_or words (b / 64) 0) (1 * 2 ^ (b % 64) % 2 ^ 64)

-- the bit of a word, where the bit i is another one than b
other_bit : (words : List ℕ) (b i : ℕ) → b / 64 < length words → b ≢ i
    → bit_at (get_or (set words (b / 64) (with_bit words b)) (i / 64) 0) (i % 64) ≡ bit_at (get_or words (i / 64) 0) (i % 64)
other_bit words b i low o = elim (eqb_tells (i / 64) (b / 64)) [
  | inl here ↦
      let ne : i % 64 ≢ b % 64 = omega (arith, here.1) in
      let small : b % 64 < 64 = omega arith in
      let word : get_or (set words (b / 64) (with_bit words b)) (i / 64) 0 ≡ with_bit words b
      = ap (λ z. get_or (set words (b / 64) (with_bit words b)) z 0) here.1 ∙ get_or-set_same words (b / 64) (with_bit words b) 0 low in
      ap (λ z. bit_at z (i % 64)) word ∙ bit_at_set_other w64 (get_or words (b / 64) 0) (b % 64) small (i % 64) ne
      ∙ ap (λ z. bit_at (get_or words z 0) (i % 64)) (sym here.1)
  | inr there ↦ ap (λ z. bit_at z (i % 64)) (get_or-set_other words (b / 64) (i / 64) (with_bit words b) 0 there.1)
]

pub set_one : (words : List ℕ) (b i : ℕ) → b < 64 * length words → is_set (set words (b / 64) (with_bit words b)) i ≡ (is_set words i || b == i)
unfolding is_set
set_one words b i within =
    let low : b / 64 < length words = omega arith in
    let small : b % 64 < 64 = omega arith in
    elim (eqb_tells b i) [
      | inl same ↦
          let e = same.1 in
          let word = ap (λ z. bit_at z (b % 64)) (get_or-set_same words (b / 64) (with_bit words b) 0 low) ∙ bit_at_set_same w64 (get_or words (b / 64) 0) (b % 64) small in
          ap (λ z. bit_at (get_or (set words (b / 64) (with_bit words b)) (z / 64) 0) (z % 64) == 1) (sym e) ∙ ap (λ z. z == 1) word
          ∙ sym (or_true (is_set words i)) ∙ ap (λ z. is_set words i || z) (sym same.0)
      | inr other ↦
          ap (λ z. z == 1) (other_bit words b i low other.1) ∙ sym (or_false (is_set words i)) ∙ ap (λ z. is_set words i || z) (sym other.0)
    ]
