use Rattle.feed_shared.proofs.MailKept.{splits}
use Rattle.feed_shared.proofs.mail.cut.Goals as goal

pub another-requires-clause-rule : goal.another-requires-clause-rule
another-requires-clause-rule g c = splits _ _ _ c.requires.rule
