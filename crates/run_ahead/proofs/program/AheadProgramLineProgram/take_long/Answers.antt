use Rattle.eb_io.specs.Lines.{long_line}
use Rattle.eb_lines.proofs.Results.{ok_on, err_on}
use Rattle.run_ahead.specs.Ahead.{HasHeld}
use Rattle.run_ahead.proofs.Waitings.{goes_beside, on_beside}
use Rattle.run_ahead.proofs.program.AheadProgramLineProgram.take_long.Goals as goal

pub returns-clause-ok : goal.returns-clause-ok
returns-clause-ok g c =
    ok_on c.hold.result c.hold.ensures.ok
    (goes_beside (HasHeld g.S.Store.other g.S.Store.holds) _ c.args.self.now.ahead c.hold.new.self c.args.text.now.items c.hold.new.text.items long_line)

pub returns-clause-err : goal.returns-clause-err
returns-clause-err g c =
    err_on c.hold.result c.hold.ensures.err (on_beside (HasHeld g.S.Store.other g.S.Store.holds) _ c.args.self.now.ahead c.hold.new.self c.args.text.now.items c.hold.new.text.items)
