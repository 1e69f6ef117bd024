use Rattle.eb_fields.proofs.NoToken.{is_no_token}
use Rattle.eb_fields.proofs.laws.is_no_token.Goals as goal

pub returns : goal.returns
returns c = is_no_token
