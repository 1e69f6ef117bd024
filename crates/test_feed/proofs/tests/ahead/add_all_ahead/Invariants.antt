use Rattle.std.proofs.Common.{◌≡◌}
use Rattle.test_feed.proofs.tests.ahead.add_all_ahead.Given as goal

abbrev pub invariant-loop-document : goal.invariant-loop-document
invariant-loop-document l = l.feed.setting ≡ l.config
