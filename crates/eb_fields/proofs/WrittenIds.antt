-- What `parse` gives of one to twenty digits.
use Rattle.std.proofs.Common.{◌≡◌, ℕ, ◌<◌, ◌≤◌, ◌^◌, nat_le, Bool, true, false, true≢false, List, length, Some, None, cond, Result, Ok, Err, refl, sym, ap, ◌∙◌, arith}
use Rattle.std.proofs.Common.{le-leb, eq-eqb, leb-true}
use Rattle.std.proofs.lemmas.Str.Parse.{parse_digits}
use Rattle.std.specs.List.{position_or_len}
use Rattle.std.specs.Result.{OkIff, result_ok}
use Rattle.std.specs.Str.Parse.{ParsesUnsigned}
use Rattle.eb_fields.specs.Digits.{is_no_digit, decimal_after}
use Rattle.eb_fields.specs.Ids.{most_id, id_of}
use Rattle.eb_fields.proofs.Decimals.{own, all_digits}
use Rattle.eb_fields.proofs.Found.{found_within}

pub parsed : {E : Type 0} (ds : List ℕ) (r : Result ℕ E) → 1 ≤ length ds → length ds ≤ 20 → length ds ≤ position_or_len is_no_digit ds → ParsesUnsigned 64 10 ds r → result_ok r ≡ id_of ds
unfolding id_of
parsed {E = E} ds r some few all parses =
    let within = found_within is_no_digit ds (position_or_len is_no_digit ds) refl in
    let whole : position_or_len is_no_digit ds ≡ length ds = omega arith in
    rw (eq-eqb (position_or_len is_no_digit ds) (length ds) whole, le-leb 1 (length ds) some, le-leb (length ds) 20 few)
    (go r (parse_digits own 64 ds r parses (all_digits ds all)) (nat_le (decimal_after 0 ds) most_id) refl)
  where
    go : (r : Result ℕ E) → OkIff r ((0 < length ds) × (decimal_after 0 ds < 2 ^ 64)) (decimal_after 0 ds) → (b : Bool) → nat_le (decimal_after 0 ds) most_id ≡ b
        → result_ok r ≡ cond (nat_le (decimal_after 0 ds) most_id) (Some (decimal_after 0 ds)) None
    go (Ok x) k true e = rw e (ap (λ (n : ℕ). Some n) k.1)
    go (Ok x) k false e = let small = k.0.1 in absurd (true≢false (sym (le-leb (decimal_after 0 ds) most_id (omega arith)) ∙ e))
    go (Err x) k true e = let small = leb-true _ _ e in absurd (k (omega arith, omega arith))
    go (Err x) k false e = rw e refl
