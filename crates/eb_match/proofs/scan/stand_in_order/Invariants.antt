use Rattle.std.proofs.Common.{◌≡◌, drop}
use Rattle.eb_base.specs.Match.{has_in_order}
use Rattle.eb_match.proofs.scan.stand_in_order.Given as goal

abbrev pub invariant-loop-term : goal.invariant-loop-term
invariant-loop-term l = has_in_order l.left (drop l.term-index l.terms) ≡ has_in_order l.wanted l.terms
