use Rattle.std.proofs.Common.{◌≡◌}
use Rattle.eb_trials.proofs.tests.fullest.all_words.Given as goal

abbrev pub invariant-loop-place : goal.invariant-loop-place
invariant-loop-place l = l.words ≡ l.fn.words
