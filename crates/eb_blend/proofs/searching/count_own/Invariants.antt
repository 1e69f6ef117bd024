use Rattle.std.proofs.Common.{◌≡◌, take}
use Rattle.eb_blend.specs.Parts.{histories_of, lengths_of, counted}
use Rattle.eb_blend.proofs.searching.count_own.Given as goal

abbrev pub invariant-loop-at : goal.invariant-loop-at
invariant-loop-at l = record {
  lengths : take l.at l.lengths ≡ take l.at (lengths_of (histories_of l.writers));
  sum : l.count ≡ counted (take l.at l.lengths);
}
