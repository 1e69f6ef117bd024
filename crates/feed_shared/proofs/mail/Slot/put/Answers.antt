use Rattle.std.proofs.Common.{ap, sym, ◌∙◌}
use Rattle.feed_shared.specs.declared.mail.Ticket.TheVariants.{At}
use Rattle.feed_shared.proofs.MailKept.{puts}
use Rattle.feed_shared.proofs.mail.Slot.put.Goals as goal

pub try_push_as-requires-clause-rule : goal.try_push_as-requires-clause-rule
try_push_as-requires-clause-rule c = puts _ _ _ _ (c.self.invariant.1 ∙ ap At (c.self.view_is ∙ sym c.requires))
