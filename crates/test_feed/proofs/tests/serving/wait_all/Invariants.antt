use Rattle.std.proofs.Common.{◌≡◌}
use Rattle.test_feed.proofs.tests.serving.wait_all.Given as goal

abbrev pub invariant-loop : goal.invariant-loop
invariant-loop g l = (l.clerk.queues ≡ l.desk.queues) × (l.clerk.stops ≡ 0)
