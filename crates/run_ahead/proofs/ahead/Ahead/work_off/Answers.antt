use Rattle.run_ahead.proofs.ahead.Ahead.work_off.Goals as goal

pub returns-clause-on : goal.returns-clause-on
returns-clause-on g c = c.requires.worker.on _ _ _ _ _ c.worker.ensures
