use Rattle.lines_json.proofs.JsonReading.{watches_read}
use Rattle.lines_json.proofs.laws.watches_read.Goals as goal

pub returns : goal.returns
returns c = watches_read
