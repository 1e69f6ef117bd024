use Rattle.std.proofs.Common.{◌≡◌, ◌+◌, ◌≤◌, ◌++◌, map, take}
use Rattle.std.specs.Prelude.{vec_len, vec_capacity, option_map}
use Rattle.run_over_parts.specs.AcceptedInParts.{refused_by}
use Rattle.run_over_parts.proofs.store.put_outcomes.Given as goal

abbrev pub invariant-loop-outcome : goal.invariant-loop-outcome
invariant-loop-outcome l = record {
  all : l.all.items ≡ l.fn.all.items ++ map (option_map refused_by) (take l.outcome-index l.outcomes);
  len : vec_len l.all ≡ vec_len l.fn.all + l.outcome-index;
  capacity : vec_capacity l.fn.all ≤ vec_capacity l.all;
}
