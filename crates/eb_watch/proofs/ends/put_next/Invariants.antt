use Rattle.eb_watch.proofs.Standing.{IsTold}
use Rattle.eb_watch.proofs.ends.put_next.Given as goal

abbrev pub invariant-places : goal.invariant-places
invariant-places l = IsTold l.number l.at l.places l.initial.ends l.ends l.least

abbrev pub decreases-places : goal.decreases-places
decreases-places l = l.at
