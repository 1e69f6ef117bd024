use Rattle.std.proofs.Common.{◌-◌, ◌≤◌, length}
use Rattle.eb_cursor.proofs.Longest.{AreOne, BeginsAt, HasMost}
use Rattle.eb_cursor.proofs.run.long_run.Given as goal

abbrev pub decreases-loop-at : goal.decreases-loop-at
decreases-loop-at l = length l.terms - l.at

abbrev pub invariant-loop-at : goal.invariant-loop-at
invariant-loop-at l = record {
  begun : l.from ≤ l.at;
  within : l.at ≤ length l.terms;
  one : AreOne l.terms l.from l.at;
  begins : BeginsAt l.terms l.from l.at;
  falls : l.longest.from ≤ l.longest.to;
  seen : l.longest.to ≤ l.at;
  longest : AreOne l.terms l.longest.from l.longest.to;
  most : HasMost l.terms l.longest l.at;
}
