use Rattle.std.proofs.Common.{◌≡◌, ℕ, ◌<◌, length, take, get_or, false}
use Rattle.std.specs.Prelude.{Result}
use Rattle.eb_base.specs.Document.{Doc}
use Rattle.eb_blend.specs.Adding.{part_after, is_full}
use Rattle.eb_blend.proofs.adding.take_turn.Given as goal

abbrev pub invariant-loop-at : goal.invariant-loop-at
invariant-loop-at g l = record {
  index : l.turn.writer.index ≡ l.fn.turn.writer.index;
  docs : l.turn.writer.docs ≡ part_after l.index.setting l.parts l.part l.fn.turn.writer.docs (take l.at l.items);
  long : length l.turn.full.items ≡ length l.fn.turn.full.items;
  full : (i : ℕ) (x : Result Doc _) → i < l.at → x ≡ get_or l.items i x
      → get_or l.turn.full.items i false ≡ is_full l.index.setting l.parts l.part (part_after l.index.setting l.parts l.part l.fn.turn.writer.docs (take i l.items)) x;
}
