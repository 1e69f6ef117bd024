use Rattle.eb_writer.proofs.Recalling.{IsSought}
use Rattle.eb_writer.proofs.recall.last_place.Given as goal

abbrev pub invariant-loop-next : goal.invariant-loop-next
invariant-loop-next l = IsSought l.terms l.at l.next

-- proposed from the loop's first test
abbrev pub decreases-loop-next : goal.decreases-loop-next
decreases-loop-next l = l.next
