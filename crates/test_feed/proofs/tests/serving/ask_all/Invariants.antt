use Rattle.std.proofs.Common.{List}
use Rattle.eb_base.specs.Document.{Doc}
use Rattle.feed_shared.specs.Turns.{HasTaken}
use Rattle.feed_serve.specs.Desk.{IsOpen}
use Rattle.feed_serve.specs.Feeds.{feed_name}
use Rattle.eb_desk.specs.Rule.{IsAboveEach}
use Rattle.test_feed.proofs.tests.serving.ask_all.Given as goal

abbrev pub invariant-loop-number : goal.invariant-loop-number
invariant-loop-number g l = record {
  taken : (history : List Doc) × HasTaken l.feed history;
  is_open : IsOpen l.desk.queues (feed_name l.feed) l.clerk;
  above : IsAboveEach l.number l.clerk.put;
}
