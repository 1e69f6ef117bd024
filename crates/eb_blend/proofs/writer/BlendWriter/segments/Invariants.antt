use Rattle.std.proofs.Common.{◌≡◌, map, take}
use Rattle.eb_blend.specs.Parts.{few_counted}
use Rattle.eb_blend.proofs.Each.{segments_in}
use Rattle.eb_blend.proofs.writer.BlendWriter.segments.Given as goal

abbrev pub invariant-loop-writer : goal.invariant-loop-writer
invariant-loop-writer l = l.segments ≡ few_counted (take l.writer-index (map segments_in l.writer-items))
