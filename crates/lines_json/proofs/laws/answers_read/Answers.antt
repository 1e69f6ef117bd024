use Rattle.lines_json.proofs.JsonReading.{answers_read}
use Rattle.lines_json.proofs.laws.answers_read.Goals as goal

pub returns : goal.returns
returns c = answers_read
