-- The sizes of the filters.
use Rattle.std.proofs.Common.{◌≡◌, ℕ, ◌+◌, ◌-◌, ◌*◌, ◌/◌, ◌%◌, ◌^◌, ◌<◌, ◌≤◌, inl, refl, ap, ◌∙◌, arith}
use Rattle.std.proofs.Math.Nat.{pow-le-pow_right, mul_left_comm}
use Rattle.std.proofs.lemmas.Nat.{pow-add, mul-add-lt, mul-le}
use Rattle.eb_base.specs.Setting.{Setting, IsSetting, AreTerms}
use Rattle.eb_bloom.specs.Bits.{row_bits, filter_rows, filter_words}
use Rattle.eb_bloom.proofs.Doubled.{IsLane, is_lane, enough, row_inside}

-- the terms of a segment are some, not too many, and sixteen times a number
pub record AreSixteens (n : ℕ) : Type 0 where
  pub some : 1 ≤ n
  pub most : n ≤ 2 ^ 20
  pub whole : n ≡ 16 * (n / 16)

sixteens : (n j : ℕ) → n ≡ 2 ^ (4 + j) → n ≡ 16 * (n / 16)
sixteens n j e = let p = pow-add 2 4 j in omega (arith, e, p)

pub are_sixteens : (n : ℕ) → AreTerms n → AreSixteens n
are_sixteens n t =
    let k : ℕ = t.0 in
    let e : n ≡ 2 ^ k = t.3 in
    let up = pow-le-pow_right {n = 2} (omega arith) t.2 in
    let down = pow-le-pow_right {n = 2} (omega arith) t.1 in
    let split : k ≡ 4 + (k - 4) = omega (arith, t.1) in
    record { some = omega (arith, e, down); most = omega (arith, e, up); whole = sixteens n (k - 4) (e ∙ ap (λ z. 2 ^ z) split) }

-- a bit of a row is one of the words
pub bit_within : (σ : Setting) (s row : ℕ) → IsSetting σ → s < σ.segments → row < filter_rows σ → row * row_bits σ + s < 64 * filter_words σ
bit_within σ s row is low small =
    let w = (are_sixteens σ.terms is.terms).whole in
    let wide : σ.segments ≤ row_bits σ = enough 6 1 σ.segments (omega (arith, is.segments.1)) in
    let inside : row * row_bits σ + s < row_bits σ * filter_rows σ = mul-add-lt row (row_bits σ) s (filter_rows σ) small (omega (arith, low, wide)) in
    let rows : filter_rows σ ≡ 64 * (σ.terms / 16) = omega (arith, w) in
    let all : row_bits σ * filter_rows σ ≡ 64 * (row_bits σ * (σ.terms / 16)) = ap (λ z. row_bits σ * z) rows ∙ mul_left_comm (row_bits σ) 64 (σ.terms / 16) in
    omega (arith, all, inside)

-- as far into n as the higher half of a number of 64 bits is into 2^32
scaled_low : (m n : ℕ) → m < 2 ^ 64 → 1 ≤ n → m / 2 ^ 32 * n / 2 ^ 32 < n
scaled_low m n low some =
    let h : m / 2 ^ 32 ≤ 2 ^ 32 - 1 = omega (arith, low) in
    let p : m / 2 ^ 32 * n ≤ (2 ^ 32 - 1) * n = mul-le (m / 2 ^ 32) n (2 ^ 32 - 1) n h (omega arith) in
    omega (arith, p, some)

-- the rows of a term are among all
pub first_within : (σ : Setting) (mixed row terms : ℕ) → IsSetting σ → mixed < 2 ^ 64 → terms ≡ σ.terms → row ≡ mixed / 2 ^ 32 * (4 * terms) / 2 ^ 32 → row < filter_rows σ
first_within σ mixed row terms is small same e =
    let t = are_sixteens σ.terms is.terms in
    omega (arith, e, scaled_low mixed (4 * terms) small (omega (arith, t.some, same)), same)

pub second_within : (σ : Setting) (row more : ℕ) → IsSetting σ → row < filter_rows σ → row / 64 * 64 + more % 64 < filter_rows σ
second_within σ row more is low = let w = (are_sixteens σ.terms is.terms).whole in omega (arith, w, low)

-- the rows of a term in words that have all, and the bits of a segment there
pub record AreInside (σ : Setting) (first second lanes words : ℕ) : Type 0 where
  pub row : (s : ℕ) → s < σ.segments → first * lanes + s < 64 * words
  pub other : (s : ℕ) → s < σ.segments → second * lanes + s < 64 * words
  pub word : (row s : ℕ) → s < σ.segments → row * lanes % 64 + s < 64

pub are_inside : (σ : Setting) (mixed terms first second lanes words : ℕ) → IsSetting σ → mixed < 2 ^ 64 → terms ≡ σ.terms
    → first ≡ mixed / 2 ^ 32 * (4 * terms) / 2 ^ 32 → second ≡ first / 64 * 64 + mixed / 2 ^ 26 % 64 → lanes ≡ row_bits σ → words ≡ filter_words σ
    → AreInside σ first second lanes words
are_inside σ mixed terms first second lanes words is small same f e l w =
    let one = first_within σ mixed first terms is small same f in
    let two : second < filter_rows σ = omega (arith, e, second_within σ first (mixed / 2 ^ 26) is one) in
    let lane : IsLane (row_bits σ) = is_lane 6 1 σ.segments (omega (arith, is.segments.1)) (inl refl) in
    let wide : σ.segments ≤ row_bits σ = enough 6 1 σ.segments (omega (arith, is.segments.1)) in
    record {
      row = λ s low. omega (arith, bit_within σ s first is low one, w, ap (λ z. first * z) l);
      other = λ s low. omega (arith, bit_within σ s second is low two, w, ap (λ z. second * z) l);
      word = λ row s low. omega (arith, row_inside (row_bits σ) row s lane (omega (arith, low, wide)), ap (λ z. row * z) l);
    }
