use Rattle.std.proofs.Common.{◌≡◌, ◌<◌, drop}
use Rattle.eb_fields.specs.Digits.{decimal_after}
use Rattle.eb_query.proofs.Values.{cap}
use Rattle.eb_query.proofs.digits.value_of.Given as goal

abbrev pub invariant-loop-digit : goal.invariant-loop-digit
invariant-loop-digit l = record {
  told : decimal_after l.value (drop l.digit-index l.digits) ≡ decimal_after 0 l.digits;
  small : l.value < cap l.digit-index;
}
