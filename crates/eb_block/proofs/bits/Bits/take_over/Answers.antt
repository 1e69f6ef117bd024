use Rattle.std.proofs.Common.{◌≡◌, ◌*◌, ◌%◌, ◌/◌, arith, subst, sym, ◌<◌, ◌+◌, ◌-◌, ◌^◌}
use Rattle.std.proofs.lemmas.Nat.{shr_below, one_shl}
use Rattle.eb_block.specs.Fields.{IsField}
use Rattle.eb_block.proofs.Shifts.{draw_over}
use Rattle.eb_block.proofs.bits.Bits.take_over.Goals as goal

pub overflow_add-field : goal.overflow_add-field
overflow_add-field c =
    let few = c.requires.held.few in
    let part = c.args.width - c.args.self.now.count in
    omega (arith, (draw_over c.args.self.now.low c.args.self.now.count c.args.next part c.args.width c.requires.held.small (omega arith) c.requires.narrow).fits)

pub returns-clause-held : goal.returns-clause-held
returns-clause-held c =
    let part = c.args.width - c.args.self.now.count in
    let e : 64 - part + part ≡ 64 = omega arith in
    record { few = omega arith; small = shr_below c.args.next (64 - part) part (subst (λ n. c.args.next < 2 ^ n) (sym e) (omega arith)) }

pub returns-clause-field : goal.returns-clause-field
returns-clause-field c =
    let few = c.requires.held.few in
    let low = c.args.self.now.low in
    let count = c.args.self.now.count in
    let part = c.args.width - count in
    let d = draw_over low count c.args.next part c.args.width c.requires.held.small (omega arith) c.requires.narrow in
    let o = one_shl c.args.width 64 (omega arith) in
    subst (λ k. IsField c.args.width (low + 2 ^ count * c.args.next) ((low + (c.args.next * 2 ^ count) % 2 ^ 64) % k) (c.args.next / 2 ^ part)) (sym o) d.field
