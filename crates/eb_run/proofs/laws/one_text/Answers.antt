use Rattle.eb_run.proofs.Modes.{one_output}
use Rattle.eb_run.proofs.laws.one_text.Goals as goal

pub returns : goal.returns
returns c = one_output
