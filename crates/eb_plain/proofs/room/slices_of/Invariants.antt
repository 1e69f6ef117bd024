use Rattle.std.proofs.Common.{◌≡◌, take, sum_by}
use Rattle.eb_place.specs.Postings.{count_of}
use Rattle.eb_place.specs.Room.{slices}
use Rattle.eb_plain.proofs.room.slices_of.Given as goal

abbrev pub invariant-loop-term : goal.invariant-loop-term
invariant-loop-term l = l.slices ≡ sum_by (λ t. slices l.pool (count_of t l.terms)) (take l.term-index l.term-items)
