use Rattle.eb_query.proofs.Apartness.{fields_are_apart}
use Rattle.eb_query.proofs.laws.fields_apart.Goals as goal

pub returns : goal.returns
returns c = fields_are_apart
