use Rattle.run_ahead.proofs.Waitings.{held_finishes}
use Rattle.run_ahead.proofs.program.AheadProgramLineProgram.finish.Goals as goal

pub returns-clause-ok : goal.returns-clause-ok
returns-clause-ok g c =
    held_finishes g.S.Store.other g.S.Store.holds _ c.args.self.now _ c.args.self.now.ahead c.requires.settled c.args.text.now.items _ c.finish.result c.finish.ensures.ok
