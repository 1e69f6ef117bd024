use Rattle.eb_run.proofs.Modes.{some_output}
use Rattle.eb_run.proofs.laws.some_text.Goals as goal

pub returns : goal.returns
returns c = some_output
