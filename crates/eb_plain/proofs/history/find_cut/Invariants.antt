use Rattle.std.proofs.Common.{◌<◌, take}
use Rattle.eb_plain.specs.Cutting.{IsCutAt}
use Rattle.eb_plain.proofs.history.find_cut.Given as goal

abbrev pub invariant-loop-at : goal.invariant-loop-at
invariant-loop-at l = record {
  cut : IsCutAt l.config (take l.at l.documents) l.closed.items l.start;
  within : l.start < l.at;
}
