use Rattle.std.proofs.Common.{◌-◌, ◌≤◌, length, take}
use Rattle.eb_image.specs.Scan.{IsShortest}
use Rattle.eb_image.specs.declared.scan.TheConstants.{LONGEST_PART}
use Rattle.eb_image.proofs.first.first_length.Given as goal

abbrev pub invariant-parts : goal.invariant-parts
invariant-parts l = record {
  order : l.have ≤ l.whole;
  there : l.have ≤ length l.bytes;
  within : l.whole ≤ LONGEST_PART;
  shortest : IsShortest (take l.have l.bytes) l.whole;
}

abbrev pub decreases-parts : goal.decreases-parts
decreases-parts l = LONGEST_PART - l.have
