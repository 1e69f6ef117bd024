use Rattle.std.proofs.Common.{◌≡◌, ◌*◌, ◌^◌, ◌≤◌, take}
use Rattle.std.specs.Prelude.{sum}
use Rattle.eb_run.proofs.bench.sum_of.Given as goal

abbrev pub invariant-loop-id : goal.invariant-loop-id
invariant-loop-id l = record {
  total : l.total ≡ sum (take l.id-index l.ids);
  small : l.total ≤ 2 ^ 64 * l.id-index;
}
