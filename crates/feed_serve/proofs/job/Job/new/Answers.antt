use Rattle.std.proofs.Common.{◌≡◌, length, min, subst, sym}
use Rattle.feed_shared.specs.Turns.{FeedToken}
use Rattle.feed_serve.specs.Feeds.{feed_name, IsReaderOf}
use Rattle.feed_serve.proofs.Fronts.{reader_made}
use Rattle.feed_serve.proofs.job.Job.new.Goals as goal

pub returns-clause-made : goal.returns-clause-made
returns-clause-made c = λ history is.
    let feed = c.args.feed.now in
    let same = c.in_ok-reader.ensures.reader in
    let held = subst (λ (r : FeedToken). r.held ≡ min feed.keep (length r.log)) same c.in_ok-reader.ensures.held in
    subst (IsReaderOf (feed_name feed)) (sym same) (reader_made feed history is held)
