use Rattle.lines_json.proofs.JsonReading.{segments_read}
use Rattle.lines_json.proofs.laws.segments_read.Goals as goal

pub returns : goal.returns
returns c = segments_read
