use Rattle.std.proofs.Common.{◌≡◌, List, take}
use Rattle.eb_base.specs.Document.{Doc}
use Rattle.eb_base.specs.Setting.{Setting}
use Rattle.eb_count.specs.Tallies.{HasCounted}
use Rattle.eb_cursor.specs.Frames.{query_of, SeenAs}
use Rattle.eb_feed.specs.Generations.{joined_generations}
use Rattle.eb_feed.specs.Held.{AreHeld}
use Rattle.eb_feed.proofs.feed.count_generations.Given as goal

abbrev pub invariant-loop-at : goal.invariant-loop-at
invariant-loop-at g l = record {
  same : l.generations ≡ l.fn.generations;
  seen : SeenAs l.fn.frame l.frame;
  counts : (σ : Setting) (past : List (List Doc)) → AreHeld l.fn.generations σ past → HasCounted (query_of l.fn.frame) (joined_generations (take l.at past)) l.fn.tally l.tally;
}
