use Rattle.std.proofs.Common.{◌≡◌, take}
use Rattle.eb_count.specs.Tallies.{HasCounted}
use Rattle.eb_cursor.specs.Frames.{query_of, SeenAs}
use Rattle.eb_blend.specs.Counted.{all_of}
use Rattle.eb_blend.specs.Parts.{indexes_of, histories_of, AreFronts}
use Rattle.eb_blend.proofs.reader.tally_each.Given as goal

abbrev pub invariant-loop-at : goal.invariant-loop-at
invariant-loop-at g l = record {
  indexes : indexes_of l.readers ≡ indexes_of l.fn.readers;
  fronts : AreFronts (histories_of l.fn.readers) (histories_of l.readers);
  seen : SeenAs l.fn.frame l.frame;
  counts : HasCounted (query_of l.fn.frame) (all_of (take l.at (histories_of l.readers))) l.fn.tally l.tally;
}
