use Rattle.std.proofs.Common.{◌≡◌, ◌<◌, take}
use Rattle.eb_blend.specs.Adding.{AreRising, newest_of}
use Rattle.eb_blend.proofs.adding.rising_front.Given as goal

abbrev pub invariant-loop-at : goal.invariant-loop-at
invariant-loop-at g l = record {
  some : 0 < l.at;
  last : l.last ≡ newest_of l.fn.last (take l.at l.items);
  rising : AreRising l.fn.last (take l.at l.items);
}
