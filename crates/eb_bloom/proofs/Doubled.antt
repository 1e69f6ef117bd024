-- The bits of a row: one of the powers of two to 64, and no fewer than the segments.
use Rattle.std.proofs.Common.{◌≡◌, ℕ, zero, suc, ◌+◌, ◌*◌, ◌%◌, ◌^◌, ◌<◌, ◌≤◌, ◌⊎◌, if◌then◌else◌, Bool, inl, inr, ap, sym, ◌∙◌, subst, arith, pow-suc}
use Rattle.std.proofs.lemmas.Bool.{cases_lt, lt-ltb, le-ltb}
use Rattle.std.proofs.Math.Nat.{mul_assoc, mul_comm}
use Rattle.eb_bloom.specs.Bits.{doubled}

abbrev pub IsLane : ℕ → Type 0
IsLane l = (l ≡ 1) ⊎ ((l ≡ 2) ⊎ ((l ≡ 4) ⊎ ((l ≡ 8) ⊎ ((l ≡ 16) ⊎ ((l ≡ 32) ⊎ (l ≡ 64))))))

pub twice : (l n : ℕ) → n ≤ 64 → l < n → IsLane l → IsLane (l * 2)
twice l n few low h = elim h [
  | inl a ↦ inr (inl (omega (arith, a)))
  | inr p ↦ elim p [
    | inl a ↦ inr (inr (inl (omega (arith, a))))
    | inr q ↦ elim q [
      | inl a ↦ inr (inr (inr (inl (omega (arith, a)))))
      | inr r ↦ elim r [
        | inl a ↦ inr (inr (inr (inr (inl (omega (arith, a))))))
        | inr s ↦ elim s [
          | inl a ↦ inr (inr (inr (inr (inr (inl (omega (arith, a)))))))
          | inr t ↦ elim t [
            | inl a ↦ inr (inr (inr (inr (inr (inr (omega (arith, a)))))))
            | inr a ↦ absurd (omega (arith, a, few, low))
          ]
        ]
      ]
    ]
  ]
]

-- one step
pub grown : (k l n : ℕ) → l < n → doubled (suc k) l n ≡ doubled k (l * 2) n
unfolding doubled
grown k l n low = ap (λ (b : Bool). doubled k (if b then l * 2 else l) n) (lt-ltb l n low)

pub kept : (k l n : ℕ) → n ≤ l → doubled (suc k) l n ≡ doubled k l n
unfolding doubled
kept k l n high = ap (λ (b : Bool). doubled k (if b then l * 2 else l) n) (le-ltb l n high)

pub is_lane : (k l n : ℕ) → n ≤ 64 → IsLane l → IsLane (doubled k l n)
unfolding doubled
is_lane zero l n few h = h
is_lane (suc k) l n few h = elim (cases_lt l n) [
  | inl low ↦ subst IsLane (sym (grown k l n low)) (is_lane k (l * 2) n few (twice l n few low h))
  | inr high ↦ subst IsLane (sym (kept k l n high)) (is_lane k l n few h)
]

stays : (k l n : ℕ) → n ≤ l → n ≤ doubled k l n
unfolding doubled
stays zero l n h = h
stays (suc k) l n h = subst (λ z. n ≤ z) (sym (kept k l n h)) (stays k l n h)

pub enough : (k l n : ℕ) → n ≤ l * 2 ^ k → n ≤ doubled k l n
unfolding doubled
enough zero l n h = omega (arith, h)
enough (suc k) l n h = elim (cases_lt l n) [
  | inl low ↦
      let wide : l * 2 ^ suc k ≡ l * 2 * 2 ^ k = ap (λ z. l * z) (pow-suc 2 k ∙ mul_comm (2 ^ k) 2) ∙ sym (mul_assoc l 2 (2 ^ k)) in
      subst (λ z. n ≤ z) (sym (grown k l n low)) (enough k (l * 2) n (omega (arith, h, wide)))
  | inr high ↦ stays (suc k) l n high
]

-- a row lies in one word
pub row_inside : (l row s : ℕ) → IsLane l → s < l → row * l % 64 + s < 64
row_inside l row s h low = elim h [
  | inl a ↦ omega (arith, a, low, ap (λ z. row * z) a)
  | inr p ↦ elim p [
    | inl a ↦ omega (arith, a, low, ap (λ z. row * z) a)
    | inr q ↦ elim q [
      | inl a ↦ omega (arith, a, low, ap (λ z. row * z) a)
      | inr r ↦ elim r [
        | inl a ↦ omega (arith, a, low, ap (λ z. row * z) a)
        | inr s ↦ elim s [
          | inl a ↦ omega (arith, a, low, ap (λ z. row * z) a)
          | inr t ↦ elim t [
            | inl a ↦ omega (arith, a, low, ap (λ z. row * z) a)
            | inr a ↦ omega (arith, a, low, ap (λ z. row * z) a)
          ]
        ]
      ]
    ]
  ]
]
