use Rattle.std.proofs.Common.{◌≡◌, ◌≤◌, ◌*◌, ◌^◌, List, take}
use Rattle.eb_base.specs.Document.{Doc}
use Rattle.eb_base.specs.Setting.{Setting}
use Rattle.eb_feed.specs.Generations.{segments_in}
use Rattle.eb_feed.specs.Held.{AreHeld}
use Rattle.eb_feed.proofs.feed.count_segments.Given as goal

abbrev pub invariant-loop-at : goal.invariant-loop-at
invariant-loop-at l = record {
  count : (σ : Setting) (past : List (List Doc)) → AreHeld l.generations σ past → l.count ≡ segments_in σ (take l.at past);
  few : l.count ≤ l.at * 2 ^ 32;
}
