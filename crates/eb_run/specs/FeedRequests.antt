-- What the words of a command line ask of a feed, as the code has it.
use Rattle.eb_fields.specs.Dialect.{dialect_of}
use Rattle.eb_run.specs.FeedCommand.{FeedAsks, FeedCounting}
use Rattle.eb_run.specs.declared.feed.command.FeedCounting as code
use Rattle.eb_run.specs.declared.feed.command.FeedRequest.{FeedRequest}

abbrev pub feed_request_view : FeedRequest → FeedAsks
feed_request_view r = record { dialect = dialect_of r.dialect; command = r.command }

abbrev pub feed_counting_view : code.FeedCounting → FeedCounting
feed_counting_view c = record { counts = c.counts; command = c.command }
