use Rattle.std.proofs.Common.{◌≡◌, ◌≤◌, ◌+◌, drop}
use Rattle.eb_place.specs.Postings.{count_of}
use Rattle.eb_plain.proofs.room.count.Given as goal

abbrev pub invariant-loop-own : goal.invariant-loop-own
invariant-loop-own l = record {
  counted : l.count + count_of l.term (drop l.own-index l.own-items) ≡ count_of l.term l.own-items;
  few : l.count ≤ l.own-index;
}
