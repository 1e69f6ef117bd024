use Rattle.std.proofs.Common.{◌∙◌, ◌≤◌, length, arith}
use Rattle.std.specs.List.{position_or_len}
use Rattle.eb_fields.specs.Digits.{is_no_digit}
use Rattle.eb_fields.proofs.WrittenIds.{parsed}
use Rattle.eb_fields.proofs.ids.read_id.Goals as goal

pub returns : goal.returns
returns c =
    let some : 1 ≤ length c.args.text.now = grind (arith, c.is_empty.ensures, c.if-is_empty.false) in
    let few : length c.args.text.now ≤ 20 = omega arith in
    let all : length c.args.text.now ≤ position_or_len is_no_digit c.args.text.now = rw c.as_bytes.ensures.value at (rw c.digits_at.ensures at c.if-digits_at-text.false) in
    c.ok.ensures.value ∙ parsed c.args.text.now c.parse.result some few all c.parse.ensures.value.0
