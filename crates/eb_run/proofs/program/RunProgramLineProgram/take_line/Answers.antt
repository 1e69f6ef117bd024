use Rattle.eb_io.specs.Lines.{line}
use Rattle.eb_lines.proofs.Results.{ok_on, err_on}
use Rattle.eb_run.proofs.Runnings.{goes_beside, on_beside}
use Rattle.eb_run.proofs.program.RunProgramLineProgram.take_line.Goals as goal

pub returns-clause-ok : goal.returns-clause-ok
returns-clause-ok g c =
    ok_on c.take_line.result c.take_line.ensures.ok (goes_beside _ c.args.self.now.running c.take_line.new.self c.args.text.now.items c.take_line.new.text.items (line c.args.bytes.now))

pub returns-clause-err : goal.returns-clause-err
returns-clause-err g c = err_on c.take_line.result c.take_line.ensures.err (on_beside _ c.args.self.now.running c.take_line.new.self c.args.text.now.items c.take_line.new.text.items)
