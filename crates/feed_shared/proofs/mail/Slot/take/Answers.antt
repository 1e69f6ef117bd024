use Rattle.feed_shared.proofs.MailKept.{takes}
use Rattle.feed_shared.proofs.mail.Slot.take.Goals as goal

pub try_pop_as-requires-clause-rule : goal.try_pop_as-requires-clause-rule
try_pop_as-requires-clause-rule c = takes _ _ _ c.self.invariant.1
