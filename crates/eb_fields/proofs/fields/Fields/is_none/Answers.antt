use Rattle.eb_fields.proofs.Listed.{are_none}
use Rattle.eb_fields.proofs.fields.Fields.is_none.Goals as goal

pub returns : goal.returns
returns c = are_none c.args.self.words c.is_none.result c.is_none.ensures
