use Rattle.std.proofs.Common.{ap, sym}
use Rattle.eb_cursor.specs.Frames.{query_of}
use Rattle.feed_shared.specs.Turns.{stretch_of}
use Rattle.run_with_workers.proofs.Tallies.{has_buckets}
use Rattle.feed_with_workers.specs.declared.feed_office.FeedOffice.{FeedOffice}
use Rattle.feed_with_workers.proofs.FeedOffices.{keeps_same, counts_all}
use Rattle.feed_with_workers.proofs.feed_office.FeedOfficeOffice.count.Goals as goal

pub returns-clause-keeps : goal.returns-clause-keeps
returns-clause-keeps g c = keeps_same c.args.self.now _ c.count_kept.ensures.same

pub returns-clause-same : goal.returns-clause-same
returns-clause-same g c = ap (λ (o : FeedOffice). o.clerk.put) c.count_kept.ensures.same

pub returns-clause-buckets : goal.returns-clause-buckets
returns-clause-buckets g c =
    let w = c.args.self.now.feed.feed in
    has_buckets (query_of c.args.frame.now) (stretch_of w.held w.log w.docs) c.args.tally.now c.clear.new.self c.count_kept.new.tally c.clear.ensures c.count_kept.ensures.counts

pub returns-clause-counts : goal.returns-clause-counts
returns-clause-counts g c = λ rules docs ws h few.
    let o = c.args.self.now in
    let e = c.count_kept.ensures in
    counts_all o (query_of c.args.frame.now) c.count_kept.result c.args.tally.now c.clear.new.self c.count_kept.new.tally c.clear.ensures e.count e.held e.counts rules docs ws
    (keeps_same c.count_kept.new.self o (sym e.same) rules docs ws h) few
