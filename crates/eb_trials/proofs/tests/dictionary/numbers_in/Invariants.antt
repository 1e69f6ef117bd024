use Rattle.std.proofs.Common.{◌≡◌}
use Rattle.eb_trials.proofs.tests.dictionary.numbers_in.Given as goal

abbrev pub ghosts-number_in : goal.ghosts-number_in
ghosts-number_in a = record { name = a.blank.name; parts = a.blank.parts }

abbrev pub invariant-loop-term : goal.invariant-loop-term
invariant-loop-term l = l.words ≡ l.fn.words
