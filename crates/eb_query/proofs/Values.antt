-- The value of a few digits.
use Rattle.std.proofs.Common.{◌≡◌, ℕ, zero, suc, ◌+◌, ◌-◌, ◌*◌, ◌^◌, ◌<◌, ◌≤◌, List, length, drop, get_or, arith, drop-cons, add-one, lit≤, refl, sym, ap, ◌∙◌}
use Rattle.std.proofs.Common.{take, nat_lt, Bool, true, false, length-drop, ltb-false}
use Rattle.std.proofs.lemmas.Bool.{ltb-true}
use Rattle.std.proofs.lemmas.List.Sums.{prefix_len-le-length}
use Rattle.std.proofs.lemmas.Str.{IsCharBoundary-before_ascii}
use Rattle.std.specs.List.{position_or_len}
use Rattle.std.specs.Str.{IsCharBoundary}
use Rattle.std.proofs.Common.{not}
use Rattle.eb_query.proofs.Cuts.{rest_is, placed_at, blank_small}
use Rattle.eb_fields.specs.Digits.{decimal_after, is_no_digit}
use Rattle.eb_query.specs.Number.{digits_len, number_in_line, is_blank_or_end}

-- more than the value of n bytes
unfoldable pub cap : ℕ → ℕ
cap zero = 1
cap (suc n) = 10 * cap n + 300

pub cap_next : (i : ℕ) → cap (i + 1) ≡ 10 * cap i + 300
unfolding cap
cap_next i = rw add-one refl

cap_rises : (i k : ℕ) → cap i ≤ cap (k + i)
unfolding cap
cap_rises i zero = let e : 0 + i ≡ i = omega arith in rw e (omega arith)
cap_rises i (suc k) = let h = cap_rises i k in let e = cap_next (k + i) in let s : suc k + i ≡ k + i + 1 = omega arith in rw s (omega arith)

cap_fifteen : cap 15 ≤ 10 ^ 17
unfolding cap
cap_fifteen = lit≤ tt

pub cap_small : (i : ℕ) → i < 16 → cap i ≤ 10 ^ 17
cap_small i h = let e : 15 - i + i ≡ 15 = omega arith in let r : cap i ≤ cap 15 = rw e at (cap_rises i (15 - i)) in let f = cap_fifteen in omega arith

pub value_next : (ds : List ℕ) (i v d : ℕ) → i < length ds → d ≡ get_or ds i 0 → decimal_after v (drop i ds) ≡ decimal_after (10 * v + (d - 48)) (drop (i + 1) ds)
value_next ds i v d h e = rw (add-one, drop-cons ds i 0 h, ← e) refl

pub digits_is : (line : List ℕ) (n : ℕ) → n ≡ position_or_len is_no_digit (take (length line - 1) (drop 1 line)) → n ≡ digits_len line
unfolding digits_len
digits_is line n h = h ∙ ap (position_or_len is_no_digit) (rest_is line 1)

pub number_is : (line : List ℕ) (n v : ℕ) → n ≡ digits_len line → v ≡ decimal_after 0 (take (n + 1 - 1) (drop 1 line)) → v ≡ number_in_line line
unfolding number_in_line
number_is line n v e h = let f : n + 1 - 1 ≡ digits_len line = omega (arith, e) in h ∙ ap (λ (k : ℕ). decimal_after 0 (take k (drop 1 line))) f

pub digits_within : (line : List ℕ) → 0 < length line → digits_len line + 1 ≤ length line
unfolding digits_len
digits_within line h =
    let l : position_or_len is_no_digit (drop 1 line) ≤ length (drop 1 line) = prefix_len-le-length (λ b. not (is_no_digit b)) (drop 1 line) in
    omega (arith, length-drop 1 line)

pub apart_boundary : (line : List ℕ) (k : ℕ) → k ≤ length line → is_blank_or_end (drop k line) ≡ true → IsCharBoundary line k
apart_boundary line k h a = go (nat_lt k (length line)) refl
  where
    small : k < length line → get_or line k 0 < 128
    small l = blank_small (get_or line k 0) (sym (ap is_blank_or_end (placed_at line k l)) ∙ a)

    go : (b : Bool) → nat_lt k (length line) ≡ b → IsCharBoundary line k
    go true t = IsCharBoundary-before_ascii line k (ltb-true _ _ t) (small (ltb-true _ _ t))
    go false f = let g = ltb-false _ _ f in (h, λ l. absurd (omega arith))
