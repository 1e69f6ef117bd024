use Rattle.eb_fields.proofs.Apart.{names_are_apart}
use Rattle.eb_fields.proofs.laws.names_apart.Goals as goal

pub returns : goal.returns
returns c = names_are_apart
