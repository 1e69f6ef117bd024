use Rattle.std.proofs.Common.{◌≡◌, arith, subst, sym, ◌<◌, ◌+◌, ◌-◌, ◌^◌}
use Rattle.std.proofs.lemmas.Nat.{shr_below}
use Rattle.eb_block.proofs.bits.Bits.take.Goals as goal

pub returns-clause-held : goal.returns-clause-held
returns-clause-held c =
    let few = c.requires.held.few in
    let e : c.args.self.now.count - c.args.width + c.args.width ≡ c.args.self.now.count = omega arith in
    record { few = omega arith; small = shr_below c.args.self.now.low (c.args.self.now.count - c.args.width) c.args.width (subst (λ n. c.args.self.now.low < 2 ^ n) (sym e) c.requires.held.small) }
