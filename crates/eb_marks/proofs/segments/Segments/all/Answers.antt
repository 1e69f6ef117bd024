use Rattle.eb_marks.proofs.Flags.{flags_all}
use Rattle.eb_marks.proofs.segments.Segments.all.Goals as goal

pub returns : goal.returns
returns c = flags_all
