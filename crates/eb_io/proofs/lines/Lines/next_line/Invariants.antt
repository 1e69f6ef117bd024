use Rattle.std.proofs.Common.{◌+◌, ◌-◌}
use Rattle.std.specs.Prelude.{if◌then◌else◌}
use Rattle.eb_io.proofs.Given.{Progress}
use Rattle.eb_io.proofs.lines.Lines.next_line.Given as goal

abbrev pub invariant-pieces : goal.invariant-pieces
invariant-pieces g l =
    Progress l.initial.source l.source (g.S.Source.left l.initial.source) (g.S.Source.left l.source) (g.S.Source.faults l.initial.source) (g.S.Source.faults l.source) l.initial.self l.self

abbrev pub decreases-pieces : goal.decreases-pieces
decreases-pieces g l = (l.self.limit - l.self.taken) + (if l.self.is_ended then 0 else 1)
