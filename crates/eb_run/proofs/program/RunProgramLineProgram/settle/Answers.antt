use Rattle.eb_run.proofs.Runnings.{on_beside}
use Rattle.eb_run.proofs.program.RunProgramLineProgram.settle.Goals as goal

pub returns : goal.returns
returns g c = on_beside _ c.args.self.now.running c.answer_held.new.self c.args.text.now.items c.answer_held.new.text.items c.answer_held.ensures.on
