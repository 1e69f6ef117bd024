use Rattle.eb_fields.specs.Dialect.{dialect_of}
use Rattle.std.proofs.Common.{◌≡◌, ◌+◌, ◌-◌, take, drop, sym, subst, arith}
use Rattle.std.specs.Prelude.{Some, slice_get}
use Rattle.std.specs.List.{AllZip}
use Rattle.run_ahead.specs.Tasks.{line_of, IsTaskOf}
use Rattle.run_ahead.proofs.Pieces.{next_one}
use Rattle.run_ahead.proofs.reading.read_some.Goals as goal

pub loop-at-preserved : goal.loop-at-preserved
loop-at-preserved c =
    let inv = c.loop-at.invariant in
    let k = c.loop-at.at - c.args.from in
    let R = IsTaskOf (dialect_of c.args.dialect) in
    let more = next_one R c.args.lines.now c.args.from k (line_of c.get.result) c.in_ok-task.task c.loop-at.tasks.items (omega arith)
    (subst (λ n. slice_get c.args.lines.now n ≡ Some (line_of c.get.result)) {x = c.loop-at.at} (omega (arith, inv.begun)) c.get.ensures) c.in_ok-task.ensures inv.read in
    let step : k + 1 ≡ c.loop-at.at + 1 - c.args.from = omega (arith, inv.begun) in
    record {
      begun = omega (arith, inv.begun);
      room = omega (arith, inv.room, c.push_reserved.ensures.len);
      most = omega (arith, inv.most, c.push_reserved.ensures.capacity);
      read = subst (λ n. AllZip R (take n (drop c.args.from c.args.lines.now)) c.push_reserved.new.self.items) step
          (subst (λ ts. AllZip R (take (k + 1) (drop c.args.from c.args.lines.now)) ts) (sym c.push_reserved.ensures.items) more);
    }
