use Rattle.std.proofs.Common.{◌≡◌}
use Rattle.test_feed.proofs.tests.letting_go.row.Given as goal

abbrev pub invariant-loop-lent : goal.invariant-loop-lent
invariant-loop-lent g l = l.feed.setting ≡ l.config
