use Rattle.eb_engine.proofs.Knows.{stays}
use Rattle.eb_engine.proofs.writer.Writer.meet.Goals as goal

pub invariant_of-self : goal.invariant_of-self
invariant_of-self c = let e = c.meet.ensures in stays _ _ _ _ e.made.moment e.least.first e.documents c.self.invariant
