use Rattle.std.proofs.Common.{length}
use Rattle.eb_doc.proofs.fields.+are_plain.Given as goal

abbrev pub decreases-are_plain : goal.decreases-are_plain
decreases-are_plain l = length l.items.now
