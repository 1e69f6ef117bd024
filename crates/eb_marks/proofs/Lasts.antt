-- The greatest member below an end.
use Rattle.std.proofs.Common.{◌≡◌, ◌≢◌, ℕ, suc, ◌+◌, ◌-◌, ◌*◌, ◌/◌, ◌%◌, ◌^◌, ◌<◌, ◌≤◌, ◌==◌, true, false, get_or}
use Rattle.std.proofs.Common.{refl, ap, sym, ◌∙◌, subst, arith, inl, inr, pow-suc, mod-lt}
use Rattle.std.specs.Int.{bit_at}
use Rattle.std.specs.Int.Count.{count_leading_zeros}
use Rattle.std.proofs.lemmas.Bool.{cases_lt, false≢true}
use Rattle.std.proofs.Math.Nat.{mod-le}
use Rattle.std.proofs.lemmas.Nat.{leading_top, one_shl, pow_pos, div-add-mod'}
use Rattle.std.proofs.lemmas.Nat.Bits.{bit_at_above, bit_at_cat_low, bit_at_cat_high, bit_at-zero}
use Rattle.eb_marks.specs.Members.{has_mark, flags, IsLast}
use Rattle.eb_marks.proofs.Flags.{flag_is}

-- the bits below an end, and no others
pub record AreBelow (n end b : ℕ) : Type 0 where
  pub same : (s : ℕ) → s < end → has_mark b s ≡ has_mark n s
  pub none : (s : ℕ) → end ≤ s → has_mark b s ≡ false
  pub small : b < 2 ^ 64

pub all_below : (n end : ℕ) → n < 2 ^ 64 → 64 ≤ end → AreBelow n end n
all_below n end small all = record { same = λ s low. refl; none = λ s from. ap (λ z. z == 1) (bit_at_above n 64 s small (omega (arith, all, from))); small = small }

rest_below : (n end : ℕ) → n < 2 ^ 64 → AreBelow n end (n % 2 ^ end)
rest_below n end small = record {
  same = λ s low. ap (λ z. z == 1) (sym (bit_at_cat_low (n / 2 ^ end) end (n % 2 ^ end) s low) ∙ ap (λ z. bit_at z s) (div-add-mod' n (2 ^ end)));
  none = λ s from. ap (λ z. z == 1) (bit_at_above (n % 2 ^ end) end s (mod-lt n (pow_pos end)) from);
  small = omega (arith, small, mod-le n (2 ^ end));
}

pub are_below : (n end : ℕ) → n < 2 ^ 64 → end < 64 → AreBelow n end (n % (1 * 2 ^ end % 2 ^ 64))
are_below n end small low = subst (λ z. AreBelow n end (n % z)) (sym (one_shl end 64 low)) (rest_below n end small)

top_mark : (b j : ℕ) → 2 ^ j ≤ b → b < 2 ^ suc j → has_mark b j ≡ true
top_mark b j le lt =
    let r : ℕ = b - 2 ^ j in
    let whole : 1 * 2 ^ j + r ≡ b = omega (arith, le) in
    let small : r < 2 ^ j = omega (arith, le, lt, pow-suc 2 j) in
    let same : j - j ≡ 0 = omega arith in
    ap (λ z. z == 1) (ap (λ z. bit_at z j) (sym whole) ∙ bit_at_cat_high 1 j r j small (omega arith) ∙ ap (bit_at 1) same)

pub last_is : (n end b : ℕ) → end ≤ 64 → AreBelow n end b → b ≢ 0 → IsLast (flags 64 n) end (63 - count_leading_zeros 64 b)
last_is n end b few h some =
    let top = leading_top 64 b (omega (arith, some)) h.small in
    let j : ℕ = top.0 in
    let at : 63 - count_leading_zeros 64 b ≡ j = omega (arith, top.1) in
    let on : has_mark b j ≡ true = top_mark b j top.2 top.3 in
    let low : j < end = elim (cases_lt j end) [ inl x ↦ x | inr x ↦ absurd (false≢true (sym (h.none j x) ∙ on)) ] in
    subst (IsLast (flags 64 n) end) (sym at) (record {
      below = low;
      member = flag_is 64 n j (omega (arith, low, few)) ∙ sym (h.same j low) ∙ on;
      last = λ s above under. flag_is 64 n s (omega (arith, under, few)) ∙ sym (h.same s under) ∙ ap (λ z. z == 1) (bit_at_above b (suc j) s top.3 (omega (arith, above)));
    })

pub none_is : (n end b : ℕ) → end ≤ 64 → AreBelow n end b → b ≡ 0 → (s : ℕ) → s < end → get_or (flags 64 n) s true ≡ false
none_is n end b few h e s low = flag_is 64 n s (omega (arith, low, few)) ∙ sym (h.same s low) ∙ ap (λ z. has_mark z s) e ∙ ap (λ z. z == 1) (bit_at-zero s)
