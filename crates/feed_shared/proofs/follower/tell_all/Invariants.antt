use Rattle.std.proofs.Common.{◌≡◌}
use Rattle.feed_shared.proofs.follower.tell_all.Given as goal

abbrev pub invariant-loop-at : goal.invariant-loop-at
invariant-loop-at l = record {
  outboxes : l.outboxes ≡ l.fn.outboxes;
  writer : l.writer ≡ l.fn.writer;
}
