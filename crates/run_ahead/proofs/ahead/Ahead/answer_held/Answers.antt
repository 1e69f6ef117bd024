use Rattle.eb_lines.proofs.Runs.{stays}
use Rattle.run_ahead.specs.Ahead.{HasHeld}
use Rattle.run_ahead.proofs.ahead.Ahead.answer_held.Goals as goal

pub returns-then-self-clause-on : goal.returns-then-self-clause-on
returns-then-self-clause-on g c = c.requires.worker.on _ _ _ _ _ c.worker.ensures

pub returns-else-self-clause-on : goal.returns-else-self-clause-on
returns-else-self-clause-on g c = stays (HasHeld g.S.Store.other g.S.Store.holds) c.args.self.now c.args.text.now.items
