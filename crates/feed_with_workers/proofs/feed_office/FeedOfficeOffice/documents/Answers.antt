use Rattle.feed_with_workers.proofs.FeedOffices.{counts}
use Rattle.feed_with_workers.proofs.feed_office.FeedOfficeOffice.documents.Goals as goal

pub returns : goal.returns
returns c = counts c.args.self.now _ c.accepted.ensures
