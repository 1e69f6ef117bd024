use Rattle.eb_lines.proofs.Results.{ok_on}
use Rattle.run_ahead.specs.Ahead.{HasHeld}
use Rattle.run_ahead.proofs.Waitings.{on_beside, held_body}
use Rattle.run_ahead.proofs.program.AheadProgramLineProgram.settle_all.Goals as goal

pub returns-clause-on : goal.returns-clause-on
returns-clause-on g c = on_beside (HasHeld g.S.Store.other g.S.Store.holds) _ c.args.self.now.ahead c.work_off.new.self c.args.text.now.items c.work_off.new.text.items c.work_off.ensures.on

pub returns-clause-printed : goal.returns-clause-printed
returns-clause-printed g c =
    ok_on c.work_off.result c.work_off.ensures.none (λ none a given so_far h. held_body g.S.Store.other g.S.Store.holds c.work_off.new.self none a given so_far h.1)
