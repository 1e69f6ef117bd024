use Rattle.std.proofs.Common.{sym, ◌∙◌}
use Rattle.eb_fields.specs.Digits.{is_no_digit}
use Rattle.eb_fields.proofs.Found.{found_at, found_none}
use Rattle.eb_fields.proofs.digits.digits_at.Goals as goal

pub returns-then-is_no_digit_byte : goal.returns-then-is_no_digit_byte
returns-then-is_no_digit_byte c = found_at is_no_digit c.args.bytes.now c.loop-at.at c.loop-at-test.true c.loop-at.invariant (sym c.is_no_digit_byte.ensures ∙ c.if-is_no_digit_byte.true)

pub returns : goal.returns
returns c = found_none is_no_digit c.args.bytes.now c.loop-at.at c.loop-at-test.false c.loop-at.invariant
