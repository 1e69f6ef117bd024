use Rattle.std.proofs.Common.{length}
use Rattle.eb_fields.specs.Fields.{names}
use Rattle.eb_doc.proofs.fields.+with_fields.Given as goal

abbrev pub decreases-with_fields : goal.decreases-with_fields
decreases-with_fields l = length (names l.fields)
