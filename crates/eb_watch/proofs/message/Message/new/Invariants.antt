use Rattle.eb_watch.specs.Message.{AreNumberedTo}
use Rattle.eb_watch.proofs.message.Message.new.Given as goal

abbrev pub invariant-loop-at : goal.invariant-loop-at
invariant-loop-at l = AreNumberedTo l.by_text l.places.items l.terms l.at
