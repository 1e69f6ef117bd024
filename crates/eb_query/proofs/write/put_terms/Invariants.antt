use Rattle.std.proofs.Common.{◌≡◌, ◌++◌, drop}
use Rattle.eb_query.specs.Writing.{spaced_terms}
use Rattle.eb_query.proofs.Tails.{joined_tail}
use Rattle.eb_query.proofs.write.put_terms.Given as goal

abbrev pub invariant-loop-at : goal.invariant-loop-at
invariant-loop-at l = l.out.items ++ joined_tail l.at (drop l.at l.terms) ≡ l.fn.out.items ++ spaced_terms l.terms
