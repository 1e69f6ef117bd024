use Rattle.lines_json.proofs.JsonReading.{refusals_read}
use Rattle.lines_json.proofs.laws.refusals_read.Goals as goal

pub returns : goal.returns
returns c = refusals_read
