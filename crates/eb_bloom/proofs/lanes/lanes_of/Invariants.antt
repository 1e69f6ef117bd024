use Rattle.std.proofs.Common.{◌≡◌, ◌-◌}
use Rattle.eb_bloom.specs.Bits.{doubled}
use Rattle.eb_bloom.proofs.Doubled.{IsLane}
use Rattle.eb_bloom.proofs.lanes.lanes_of.Given as goal

abbrev pub invariant-loop-step : goal.invariant-loop-step
invariant-loop-step l = record {
  same : doubled (6 - l._step) l.lanes l.segments ≡ doubled 6 1 l.segments;
  lane : IsLane l.lanes;
}
