use Rattle.std.proofs.Common.{◌≡◌, ◌+◌, ◌*◌, ◌≤◌, ◌++◌, take}
use Rattle.std.specs.Prelude.{vec_len, vec_capacity}
use Rattle.eb_lines.specs.Words.{parted}
use Rattle.eb_lines.proofs.pieces.put_ids.Given as goal

abbrev pub invariant-loop-id : goal.invariant-loop-id
invariant-loop-id l = record {
  text : l.text.items ≡ l.initial.text.items ++ parted l.part (take l.id-index l.ids);
  len : vec_len l.text ≤ vec_len l.initial.text + 21 * l.id-index;
  room : vec_capacity l.initial.text ≤ vec_capacity l.text;
}
