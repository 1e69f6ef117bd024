use Rattle.std.proofs.Common.{◌≡◌, take}
use Rattle.eb_place.specs.Postings.{distinct}
use Rattle.eb_plain.proofs.room.distinct_terms.Given as goal

abbrev pub invariant-loop-term : goal.invariant-loop-term
invariant-loop-term l = l.found ≡ distinct (take l.term-index l.term-items)
