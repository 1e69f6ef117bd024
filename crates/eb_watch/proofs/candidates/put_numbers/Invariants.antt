use Rattle.std.proofs.Common.{◌≡◌, ◌++◌}
use Rattle.eb_watch.proofs.candidates.put_numbers.Given as goal

abbrev pub invariant-loop-number : goal.invariant-loop-number
invariant-loop-number l = l.numbers.items ++ l.number-iterator ≡ l.initial.numbers.items ++ l.set.keys
