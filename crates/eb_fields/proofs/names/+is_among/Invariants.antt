use Rattle.std.proofs.Common.{length}
use Rattle.eb_fields.specs.Fields.{names}
use Rattle.eb_fields.proofs.names.+is_among.Given as goal

abbrev pub decreases-is_among : goal.decreases-is_among
decreases-is_among l = length (names l.fields)
