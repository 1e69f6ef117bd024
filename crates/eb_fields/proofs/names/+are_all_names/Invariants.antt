use Rattle.std.proofs.Common.{length}
use Rattle.eb_fields.specs.Fields.{names}
use Rattle.eb_fields.proofs.names.+are_all_names.Given as goal

abbrev pub decreases-are_all_names : goal.decreases-are_all_names
decreases-are_all_names l = length (names l.fields)
