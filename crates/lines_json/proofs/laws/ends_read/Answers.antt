use Rattle.lines_json.proofs.JsonReading.{ends_read}
use Rattle.lines_json.proofs.laws.ends_read.Goals as goal

pub returns : goal.returns
returns c = ends_read
