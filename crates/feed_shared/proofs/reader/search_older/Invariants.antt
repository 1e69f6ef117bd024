use Rattle.std.proofs.Common.{◌≡◌, List, take}
use Rattle.eb_base.specs.Document.{Doc}
use Rattle.eb_base.specs.Match.{answer}
use Rattle.eb_cursor.specs.Frames.{query_of, k_of, ids_of}
use Rattle.eb_feed.specs.Generations.{joined_generations}
use Rattle.feed_shared.specs.declared.turn.Turn.{Turn}
use Rattle.feed_shared.specs.Turns.{AreHeld, past_of}
use Rattle.feed_shared.proofs.reader.search_older.Given as goal

abbrev pub invariant-loop-at : goal.invariant-loop-at
invariant-loop-at g l = record {
  same : l.pieces ≡ l.fn.pieces;
  query : query_of l.frame ≡ query_of l.fn.frame;
  k : k_of l.frame ≡ k_of l.fn.frame;
  ids : (docs : List Doc) (ts : List Turn) → AreHeld l.fn.pieces docs ts → ids_of l.fn.frame ≡ answer (query_of l.fn.frame) (k_of l.fn.frame) docs
      → ids_of l.frame ≡ answer (query_of l.fn.frame) (k_of l.fn.frame) (joined_generations (take l.at (past_of docs ts)));
}
