use Rattle.std.proofs.Common.{◌≡◌, length}
use Rattle.eb_base.specs.Match.{has_phrase}
use Rattle.eb_match.proofs.scan.contains_phrase.Given as goal

abbrev pub invariant-loop-after : goal.invariant-loop-after
invariant-loop-after l = has_phrase l.phrase l.rest ≡ has_phrase l.phrase l.terms

abbrev pub decreases-loop-after : goal.decreases-loop-after
decreases-loop-after l = length l.rest
