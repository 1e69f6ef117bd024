use Rattle.std.proofs.Common.{length}
use Rattle.eb_fields.specs.Fields.{names}
use Rattle.eb_fields.proofs.names.+are_distinct.Given as goal

abbrev pub decreases-are_distinct : goal.decreases-are_distinct
decreases-are_distinct l = length (names l.fields)
