use Rattle.std.proofs.Common.{refl}
use Rattle.feed_with_workers.proofs.SameOffices.{same_office}
use Rattle.feed_with_workers.proofs.feed_office.FeedOffice.count_kept.Goals as goal

pub returns-clause-same : goal.returns-clause-same
returns-clause-same g c = same_office c.args.self.now _ refl refl c.count_unmetered.ensures.this refl
