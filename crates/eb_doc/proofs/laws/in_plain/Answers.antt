use Rattle.eb_doc.proofs.WithNames.{in_plain}
use Rattle.eb_doc.proofs.laws.in_plain.Goals as goal

pub returns : goal.returns
returns c = in_plain
