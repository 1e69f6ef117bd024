use Rattle.eb_c.proofs.Holdings.{begun_of}
use Rattle.eb_c.proofs.asking.ask_read.Goals as goal

pub returns-in_default-clause-told : goal.returns-in_default-clause-told
returns-in_default-clause-told c docs h = absurd (c.in_default.ensures (begun_of _ _ docs h))
