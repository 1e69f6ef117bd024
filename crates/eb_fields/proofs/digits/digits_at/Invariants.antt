use Rattle.std.proofs.Common.{◌≡◌, ℕ, ◌<◌, get_or, false}
use Rattle.eb_fields.specs.Digits.{is_no_digit}
use Rattle.eb_fields.proofs.digits.digits_at.Given as goal

abbrev pub invariant-loop-at : goal.invariant-loop-at
invariant-loop-at l = (k : ℕ) → k < l.at → is_no_digit (get_or l.bytes k 0) ≡ false
