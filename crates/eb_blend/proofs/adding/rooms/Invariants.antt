use Rattle.std.proofs.Common.{◌≡◌, length}
use Rattle.std.specs.Prelude.{vec_len}
use Rattle.std.specs.List.{All}
use Rattle.eb_blend.proofs.adding.rooms.Given as goal

abbrev pub invariant-loop-part : goal.invariant-loop-part
invariant-loop-part l = record {
  number : vec_len l.rooms ≡ l._part;
  long : All (λ full. length full.items ≡ l.items) l.rooms.items;
}
