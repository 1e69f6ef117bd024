use Rattle.std.proofs.Common.{◌≡◌, ◌≤◌, length, drop}
use Rattle.eb_watch.specs.Ends.{AreEnds}
use Rattle.eb_watch.proofs.matching.has_window_of.Given as goal

abbrev pub invariant-loop-left : goal.invariant-loop-left
invariant-loop-left l = (length l.ends ≡ length l.document.terms) × (l.left ≤ length l.before) × AreEnds l.document.terms (drop l.left l.window) l.ends

abbrev pub decreases-loop-left : goal.decreases-loop-left
decreases-loop-left l = l.left
