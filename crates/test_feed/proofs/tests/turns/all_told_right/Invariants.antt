use Rattle.std.proofs.Common.{◌≡◌}
use Rattle.test_feed.proofs.tests.turns.all_told_right.Given as goal

abbrev pub invariant-loop-document : goal.invariant-loop-document
invariant-loop-document l = l.reader.book ≡ l.feed.feed.book
