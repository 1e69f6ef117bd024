use Rattle.std.proofs.Common.{◌≡◌, length, replicate}
use Rattle.eb_base.specs.Query.{tree}
use Rattle.eb_blend.specs.Frames.{AllAsk}
use Rattle.eb_blend.proofs.frame.BlendFrame.new.Given as goal

abbrev pub invariant-loop-part : goal.invariant-loop-part
invariant-loop-part l = record {
  frames : AllAsk (tree l.query) l.k l.frames.items;
  number : length l.frames.items ≡ l._part;
  lengths : l.lengths.items ≡ replicate l._part 0;
}
