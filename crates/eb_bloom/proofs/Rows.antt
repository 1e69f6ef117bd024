-- The rows of a term, as they are computed.
use Rattle.std.proofs.Common.{◌≡◌, ℕ, ◌+◌, ◌*◌, ◌/◌, ◌%◌, ◌^◌, ◌&&◌, List, ◌∙◌}
use Rattle.eb_base.specs.Term.{Term}
use Rattle.eb_base.specs.Setting.{Setting}
use Rattle.eb_bloom.specs.Bits.{Bits, row_bits, mixed_hash, first_row, second_row, is_set, is_noted}

pub record AreRows (σ : Setting) (t : Term) (first second lanes : ℕ) : Type 0 where
  pub row : first ≡ first_row σ t
  pub other : second ≡ second_row σ t
  pub wide : lanes ≡ row_bits σ

pub are_rows : (σ : Setting) (t : Term) (mixed terms first second lanes : ℕ) → mixed ≡ mixed_hash t → terms ≡ σ.terms
    → first ≡ mixed / 2 ^ 32 * (4 * terms) / 2 ^ 32 → second ≡ first / 64 * 64 + mixed / 2 ^ 26 % 64 → lanes ≡ row_bits σ → AreRows σ t first second lanes
are_rows σ t mixed terms first second lanes m w f e l =
    let one : first ≡ first_row σ t = f ∙ (λ i. m i / 2 ^ 32 * (4 * w i) / 2 ^ 32) in
    record { row = one; other = e ∙ (λ i. one i / 64 * 64 + m i / 2 ^ 26 % 64); wide = l }

-- both bits are set where the term is noted
pub both_noted : (b : Bits) (s : ℕ) (t : Term) (words : List ℕ) (first second lanes : ℕ) → AreRows b.setting t first second lanes → words ≡ b.words
    → (is_set words (first * lanes + s) && is_set words (second * lanes + s)) ≡ is_noted b s t
both_noted b s t words first second lanes r w = λ i. is_set (w i) (r.row i * r.wide i + s) && is_set (w i) (r.other i * r.wide i + s)
