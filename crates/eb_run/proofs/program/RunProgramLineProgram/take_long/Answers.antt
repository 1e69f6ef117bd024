use Rattle.eb_io.specs.Lines.{long_line}
use Rattle.eb_lines.proofs.Results.{ok_on, err_on}
use Rattle.eb_run.proofs.Runnings.{goes_beside, on_beside}
use Rattle.eb_run.proofs.program.RunProgramLineProgram.take_long.Goals as goal

pub returns-clause-ok : goal.returns-clause-ok
returns-clause-ok g c =
    ok_on c.take_long.result c.take_long.ensures.ok (goes_beside _ c.args.self.now.running c.take_long.new.self c.args.text.now.items c.take_long.new.text.items long_line)

pub returns-clause-err : goal.returns-clause-err
returns-clause-err g c = err_on c.take_long.result c.take_long.ensures.err (on_beside _ c.args.self.now.running c.take_long.new.self c.args.text.now.items c.take_long.new.text.items)
