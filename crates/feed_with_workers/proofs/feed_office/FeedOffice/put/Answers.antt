use Rattle.std.proofs.Common.{refl, sym, subst}
use Rattle.feed_serve.specs.Feeds.{FeedName, IsReaderOf}
use Rattle.eb_lines.proofs.Results.{err_any}
use Rattle.feed_with_workers.proofs.SameOffices.{same_office}
use Rattle.feed_with_workers.proofs.feed_office.FeedOffice.put.Goals as goal

pub returns-in_err-job-clause-err : goal.returns-in_err-job-clause-err
returns-in_err-job-clause-err g c = err_any c.from_residual.result (same_office c.args.self.now _ refl refl c.new.ensures.feed refl)

pub ask-requires-clause-made : goal.ask-requires-clause-made
ask-requires-clause-made g c =
    let h = c.requires.staffed in
    subst (λ (f : FeedName). IsReaderOf f c.in_ok-job.job.reader) (sym h.clerk.1) (c.in_ok-job.ensures.made _ h.taken)
