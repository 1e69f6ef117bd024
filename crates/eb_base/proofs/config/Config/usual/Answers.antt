use Rattle.std.proofs.Common.{refl, arith}
use Rattle.eb_base.proofs.config.Config.usual.Goals as goal

pub invariant_of-result : goal.invariant_of-result
invariant_of-result c = record {
  segments = (omega arith, omega arith);
  docs = (omega arith, omega arith);
  terms = (13, omega arith, omega arith, refl);
  words = omega arith;
}
