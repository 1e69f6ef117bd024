use Rattle.std.proofs.Common.{◌≡◌, ◌++◌, length}
use Rattle.eb_text.specs.Pieces.{pieces}
use Rattle.eb_text.proofs.pieces.push_cut.Given as goal

abbrev pub invariant-rest : goal.invariant-rest
invariant-rest l = l.terms ++ pieces l.rest ≡ l.initial.terms ++ pieces l.token

abbrev pub decreases-rest : goal.decreases-rest
decreases-rest l = length l.rest
