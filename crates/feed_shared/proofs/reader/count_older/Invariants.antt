use Rattle.std.proofs.Common.{◌≡◌, List, take}
use Rattle.eb_base.specs.Document.{Doc}
use Rattle.eb_count.specs.Tallies.{Numbers, HasCounted}
use Rattle.eb_cursor.specs.Frames.{query_of, SeenAs}
use Rattle.eb_feed.specs.Generations.{joined_generations}
use Rattle.feed_shared.specs.declared.turn.Turn.{Turn}
use Rattle.feed_shared.specs.Turns.{AreHeld, past_of}
use Rattle.feed_shared.proofs.reader.count_older.Given as goal

abbrev pub invariant-loop-at : goal.invariant-loop-at
invariant-loop-at g l = record {
  same : l.pieces ≡ l.fn.pieces;
  seen : SeenAs l.fn.frame l.frame;
  counts : (docs : List Doc) (ts : List Turn) (before : Numbers) → AreHeld l.fn.pieces docs ts → HasCounted (query_of l.fn.frame) docs before l.fn.tally
      → HasCounted (query_of l.fn.frame) (joined_generations (take l.at (past_of docs ts))) before l.tally;
}
