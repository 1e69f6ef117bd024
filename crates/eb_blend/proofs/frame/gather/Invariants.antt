use Rattle.std.proofs.Common.{◌≡◌, ◌≤◌, ◌*◌, ℕ, length, map, take, vec_capacity}
use Rattle.eb_base.specs.Query.{Tree}
use Rattle.eb_cursor.specs.Frames.{ids_of}
use Rattle.eb_blend.specs.Frames.{AllAsk}
use Rattle.eb_blend.specs.Parts.{joined}
use Rattle.eb_blend.proofs.frame.gather.Given as goal

abbrev pub invariant-loop-frame : goal.invariant-loop-frame
invariant-loop-frame l = record {
  ids : l.ids.items ≡ joined (map ids_of (take l.frame-index l.frames));
  few : (q : Tree) (k : ℕ) → AllAsk q k l.frames → length l.ids.items ≤ l.frame-index * k;
  room : vec_capacity l.fn.ids ≤ vec_capacity l.ids;
}
