use Rattle.std.proofs.Common.{◌<◌, length, ap, arith}
use Rattle.std.specs.Prelude.{◌^◌}
use Rattle.run_store.specs.Rules.{Rules}
use Rattle.run_over_parts.proofs.parted.PartedStore.documents.Goals as goal

pub returns : goal.returns
returns c = λ rules docs none h few.
    let start = ap (λ (r : Rules (Unit {0})). length r.start) h.by_rules in
    let small : length docs < 2 ^ 64 = omega (arith, few, start) in
    c.documents.ensures c.args.self.now.number h.setting docs h.holds small
