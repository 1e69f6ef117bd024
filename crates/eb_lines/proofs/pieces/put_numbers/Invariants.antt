use Rattle.std.proofs.Common.{◌≡◌, ◌+◌, ◌*◌, ◌≤◌, ◌++◌, take}
use Rattle.std.specs.Prelude.{vec_len, vec_capacity}
use Rattle.eb_lines.specs.Words.{parted}
use Rattle.eb_lines.proofs.pieces.put_numbers.Given as goal

abbrev pub invariant-loop-number : goal.invariant-loop-number
invariant-loop-number l = record {
  text : l.text.items ≡ l.initial.text.items ++ parted l.part (take l.number-index l.numbers);
  len : vec_len l.text ≤ vec_len l.initial.text + 21 * l.number-index;
  room : vec_capacity l.initial.text ≤ vec_capacity l.text;
}
