use Rattle.std.proofs.Common.{refl, arith}
use Rattle.eb_io.specs.Lines.{line}
use Rattle.run_with_workers.specs.Serving.{HasServed}
use Rattle.eb_lines.proofs.Results.{ok_on, err_on}
use Rattle.eb_lines.proofs.Runs.{stays_at}
use Rattle.run_with_workers.proofs.Servings.{goes_running, same_number, on_on, on_line}
use Rattle.run_with_workers.proofs.serving.Serving.take_line.Goals as goal

pub take_bytes-requires-clause-running : goal.take_bytes-requires-clause-running
take_bytes-requires-clause-running g c =
    goes_running g.O.Office.holds g.O.Office.asked c.args.self.now c.make_room.new.self c.args.text.now.items c.make_room.new.text.items c.requires.running c.make_room.ensures.on

pub take_bytes-requires-clause-number : goal.take_bytes-requires-clause-number
take_bytes-requires-clause-number g c =
    let same = same_number g.O.Office.holds g.O.Office.asked c.args.self.now c.make_room.new.self c.args.text.now.items c.make_room.new.text.items c.requires.running c.make_room.ensures.on in
    omega (arith, same, c.requires.number)

pub returns-clause-ok : goal.returns-clause-ok
returns-clause-ok g c = ok_on c.take_bytes.result c.take_bytes.ensures.ok (λ x.
    on_line g.O.Office.holds g.O.Office.asked c.args.self.now c.make_room.new.self c.take_bytes.new.self c.args.text.now.items c.make_room.new.text.items
    (line c.args.bytes.now) x.0 c.make_room.ensures.on x.2 x.1)

pub returns-clause-err : goal.returns-clause-err
returns-clause-err g c = err_on c.take_bytes.result c.take_bytes.ensures.err (λ e.
    let H = g.O.Office.holds in
    let B = g.O.Office.asked in
    let t = c.make_room.new.text.items in
    on_on H B c.args.self.now c.make_room.new.self c.take_bytes.new.self c.args.text.now.items t t c.make_room.ensures.on
    (stays_at (HasServed H B) c.make_room.new.self c.take_bytes.new.self t t e refl))
