use Rattle.std.proofs.Common.{refl, arith}
use Rattle.eb_io.specs.Lines.{long_line}
use Rattle.eb_lines.specs.Reading.{refused}
use Rattle.eb_lines.specs.declared.refusal.Refusal.TheVariants.{LongLine}
use Rattle.run_with_workers.proofs.Servings.{goes_running, same_number, on_line}
use Rattle.run_with_workers.proofs.serving.Serving.take_long.Goals as goal

pub refuse-requires-clause-running : goal.refuse-requires-clause-running
refuse-requires-clause-running g c = goes_running g.O.Office.holds g.O.Office.asked c.args.self.now c.make_room.new.self c.args.text.now.items
    c.make_room.new.text.items c.requires.running c.make_room.ensures.on

pub refuse-requires-clause-number : goal.refuse-requires-clause-number
refuse-requires-clause-number g c =
    let same = same_number g.O.Office.holds g.O.Office.asked c.args.self.now c.make_room.new.self c.args.text.now.items c.make_room.new.text.items c.requires.running c.make_room.ensures.on in
    omega (arith, same, c.requires.number)

pub returns-clause-ok : goal.returns-clause-ok
returns-clause-ok g c =
    on_line g.O.Office.holds g.O.Office.asked c.args.self.now c.make_room.new.self c.refuse.new.self c.args.text.now.items c.make_room.new.text.items long_line
    (refused LongLine) c.make_room.ensures.on c.refuse.ensures refl
