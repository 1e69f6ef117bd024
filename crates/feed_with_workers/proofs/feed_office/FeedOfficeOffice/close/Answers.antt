use Rattle.feed_with_workers.proofs.FeedOffices.{closes}
use Rattle.feed_with_workers.proofs.feed_office.FeedOfficeOffice.close.Goals as goal

pub returns : goal.returns
returns c = closes c.args.self.now c.kept.result c.kept.ensures.kept c.kept.ensures.held
