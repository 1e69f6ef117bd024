use Rattle.std.proofs.Common.{◌≡◌}
use Rattle.test_feed.proofs.tests.rows.add_ids.Given as goal

abbrev pub invariant-loop-before : goal.invariant-loop-before
invariant-loop-before l = l.feed.feed.book ≡ l.initial.feed.feed.book
