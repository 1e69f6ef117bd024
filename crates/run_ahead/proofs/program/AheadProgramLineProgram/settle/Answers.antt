use Rattle.run_ahead.specs.Ahead.{HasHeld}
use Rattle.run_ahead.proofs.Waitings.{on_beside}
use Rattle.run_ahead.proofs.program.AheadProgramLineProgram.settle.Goals as goal

pub returns : goal.returns
returns g c =
    on_beside (HasHeld g.S.Store.other g.S.Store.holds) _ c.args.self.now.ahead c.answer_held.new.self c.args.text.now.items c.answer_held.new.text.items c.answer_held.ensures.on
