use Rattle.std.proofs.Common.{take}
use Rattle.eb_place.specs.declared.moment.Moment.{Moment}
use Rattle.eb_writer.specs.Progress.{PlacerStands}
use Rattle.eb_trials.specs.Added.{HasAdded}
use Rattle.eb_trials.proofs.tests.made.add_all.Given as goal

abbrev pub invariant-loop-document : goal.invariant-loop-document
invariant-loop-document g l = (m : Moment) → g.P.Port.stands l.fn.pen m → PlacerStands l.fn.placer m → HasAdded g.P.Port.stands l.pen l.placer m (take l.document-index l.documents)
