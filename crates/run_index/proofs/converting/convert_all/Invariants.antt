use Rattle.std.proofs.Common.{◌≡◌, ◌≤◌, ◌-◌, ◌^◌}
use mathlib.Core.List.{IsPrefix}
use Rattle.run_index.proofs.converting.convert_all.Given as goal

abbrev pub invariant-converts : goal.invariant-converts
invariant-converts l = record {
  index : l.converter.index ≡ l.fn.converter.index;
  known : IsPrefix l.fn.converter.docs l.converter.docs;
  grown : l.fn.converter.converted ≤ l.converter.converted;
}

abbrev pub decreases-converts : goal.decreases-converts
decreases-converts l = 2 ^ 32 - l.converter.converted
