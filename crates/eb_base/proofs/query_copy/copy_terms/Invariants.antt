use Rattle.std.proofs.Common.{◌≡◌, take}
use Rattle.eb_base.proofs.query_copy.copy_terms.Given as goal

abbrev pub invariant-loop-at : goal.invariant-loop-at
invariant-loop-at l = l.copied ≡ take l.at l.terms
