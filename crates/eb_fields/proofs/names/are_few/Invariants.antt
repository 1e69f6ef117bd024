use Rattle.std.proofs.Common.{◌≡◌, ◌+◌, length}
use Rattle.eb_fields.specs.Fields.{names}
use Rattle.eb_fields.proofs.names.are_few.Given as goal

abbrev pub invariant-loop-at : goal.invariant-loop-at
invariant-loop-at l = length (names l.fields) ≡ length (names l.rest) + l._at
