use Rattle.std.proofs.Common.{length}
use Rattle.eb_flat.specs.Flat.{StandsFor}
use Rattle.eb_trials.specs.Added.{HasAccepted}
use Rattle.eb_trials.proofs.tests.cursors.cursors_find_windows_and_bounds_as_a_scan_does.Given as goal

abbrev pub invariant-loop-text : goal.invariant-loop-text
invariant-loop-text g l = HasAccepted StandsFor l.words (length l.documents.items)
