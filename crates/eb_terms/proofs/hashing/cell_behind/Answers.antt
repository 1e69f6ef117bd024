use Rattle.std.proofs.Common.{◌<◌, ◌≤◌, ◌+◌, ◌-◌, sym, ◌∙◌, arith}
use Rattle.std.proofs.Math.Nat.{mod-eq_of_lt, mod-eq-sub-mod}
use Rattle.eb_terms.proofs.hashing.cell_behind.Goals as goal

pub returns-then-cell-cells : goal.returns-then-cell-cells
returns-then-cell-cells c = sym (mod-eq_of_lt c.if-cell-cells.true)

pub returns-else-cell-cells : goal.returns-else-cell-cells
returns-else-cell-cells c =
    let above : c.args.cells ≤ c.args.first + c.args.step = omega (arith, c.if-cell-cells.false) in
    let low : c.args.first + c.args.step - c.args.cells < c.args.cells = omega (arith, c.requires, above) in
    sym (mod-eq-sub-mod above ∙ mod-eq_of_lt low)
