use Rattle.std.proofs.Common.{◌≡◌, ◌++◌, take}
use Rattle.eb_plain.proofs.room.put_terms.Given as goal

abbrev pub invariant-loop-term : goal.invariant-loop-term
invariant-loop-term l = l.terms ≡ l.initial.terms ++ take l.term-index l.term-items
