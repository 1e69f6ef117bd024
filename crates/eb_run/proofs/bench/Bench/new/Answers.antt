use Rattle.std.proofs.Common.{[], refl, subst}
use Rattle.eb_base.specs.Setting.{Setting}
use Rattle.run_index.specs.Indexed.{Holds}
use Rattle.eb_run.proofs.Benches.{counted_none}
use Rattle.eb_run.proofs.bench.Bench.new.Goals as goal

pub returns : goal.returns
returns c =
    let H : Setting → Type 0 = λ σ. Holds c.in_ok-indexed.indexed σ [] in
    counted_none _ refl refl refl refl (subst H c.usual.ensures c.in_ok-indexed.ensures.holds)
