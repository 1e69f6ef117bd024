use Rattle.std.proofs.Common.{length}
use Rattle.eb_fields.specs.Fields.{names}
use Rattle.eb_fields.proofs.fields.Fields.+begun_by.Given as goal

abbrev pub decreases-begun_by : goal.decreases-begun_by
decreases-begun_by l = length (names l.self)
