use Rattle.std.proofs.Common.{◌≡◌, length}
use Rattle.eb_base.specs.Match.{has_window}
use Rattle.eb_match.proofs.scan.contains_window.Given as goal

abbrev pub invariant-loop-term : goal.invariant-loop-term
invariant-loop-term l = has_window l.window l.reach l.rest ≡ has_window l.window l.reach l.terms

abbrev pub decreases-loop-term : goal.decreases-loop-term
decreases-loop-term l = length l.rest
