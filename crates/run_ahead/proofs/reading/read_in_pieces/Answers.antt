use Rattle.eb_fields.specs.Dialect.{dialect_of}
use Rattle.std.proofs.Common.{◌≡◌, ◌*◌, take, drop, length, ap, subst, arith, length-drop}
use Rattle.std.specs.Prelude.{IfOk}
use Rattle.std.specs.List.{AllZip}
use Rattle.std.proofs.lemmas.List.{take_all}
use Rattle.run_ahead.specs.Tasks.{IsTaskOf}
use Rattle.run_ahead.proofs.reading.read_in_pieces.Goals as goal

pub returns : goal.returns
returns g c =
    let waiting = drop c.args.from c.args.lines.now in
    let ps = c.read_pieces.new.pieces in
    let same : length ps * c.args.size ≡ length c.args.pieces.now * c.args.size = ap (λ n. n * c.args.size) c.read_pieces.ensures.count in
    let all : take (length ps * c.args.size) waiting ≡ waiting =
    take_all (length ps * c.args.size) waiting (omega (arith, same, c.requires.enough, length-drop c.args.from c.args.lines.now)) in
    subst (λ ls. IfOk c.join_pieces.result (λ tasks. AllZip (IsTaskOf (dialect_of c.args.dialect)) ls tasks.items)) all
    (c.join_pieces.ensures (dialect_of c.args.dialect) waiting c.args.size c.read_pieces.ensures.pieces)
