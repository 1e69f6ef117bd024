use Rattle.lines_json.proofs.JsonReading.{generations_read}
use Rattle.lines_json.proofs.laws.generations_read.Goals as goal

pub returns : goal.returns
returns c = generations_read
