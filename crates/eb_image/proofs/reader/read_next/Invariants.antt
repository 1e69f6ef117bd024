use Rattle.std.proofs.Common.{◌≡◌, ◌-◌, ◌≤◌, take}
use Rattle.eb_io.specs.Source.{after}
use Rattle.eb_image.specs.Scan.{IsShortest}
use Rattle.eb_image.specs.declared.scan.TheConstants.{LONGEST_PART}
use Rattle.eb_image.proofs.reader.read_next.Given as goal

abbrev pub invariant-reads : goal.invariant-reads
invariant-reads g l = record {
  order : l.have ≤ l.whole;
  within : l.whole ≤ LONGEST_PART;
  shortest : IsShortest (take l.have l.buffer) l.whole;
  left : g.S.Source.left l.initial.source ≡ after (take l.have l.buffer) (g.S.Source.left l.source);
  later : g.S.Source.faults l.initial.source ≤ g.S.Source.faults l.source;
}

abbrev pub decreases-reads : goal.decreases-reads
decreases-reads g l = LONGEST_PART - l.have
