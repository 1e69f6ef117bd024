use Rattle.eb_lines.proofs.Runs.{stays}
use Rattle.run_ahead.specs.Ahead.{HasHeld}
use Rattle.run_ahead.proofs.ahead.Ahead.make_way.Goals as goal

pub returns-then-is_full-clause-on : goal.returns-then-is_full-clause-on
returns-then-is_full-clause-on g c = c.requires.worker.on _ _ _ _ _ c.worker.ensures

pub returns-else-is_full-clause-on : goal.returns-else-is_full-clause-on
returns-else-is_full-clause-on g c = stays (HasHeld g.S.Store.other g.S.Store.holds) c.args.self.now c.args.text.now.items
