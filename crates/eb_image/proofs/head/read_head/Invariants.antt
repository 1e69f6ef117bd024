use Rattle.std.proofs.Common.{◌≡◌, ◌-◌, ◌≤◌, take}
use Rattle.eb_io.specs.Source.{after}
use Rattle.eb_image.specs.Reading.{IsHead, Begins}
use Rattle.eb_image.proofs.head.read_head.Given as goal

abbrev pub invariant-reads : goal.invariant-reads
invariant-reads g l = record {
  within : l.have ≤ 20;
  begins : Begins IsHead (take l.have l.head);
  left : g.S.Source.left l.initial.source ≡ after (take l.have l.head) (g.S.Source.left l.source);
  later : g.S.Source.faults l.initial.source ≤ g.S.Source.faults l.source;
}

abbrev pub decreases-reads : goal.decreases-reads
decreases-reads g l = 20 - l.have
