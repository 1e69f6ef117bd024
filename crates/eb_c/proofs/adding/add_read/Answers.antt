use Rattle.eb_c.proofs.Holdings.{begun_of}
use Rattle.eb_c.proofs.adding.add_read.Goals as goal

pub returns-in_default-clause-number : goal.returns-in_default-clause-number
returns-in_default-clause-number c docs h = absurd (c.in_default.ensures (begun_of _ _ docs h))

pub returns-in_default-clause-index : goal.returns-in_default-clause-index
returns-in_default-clause-index c docs h = absurd (c.in_default.ensures (begun_of _ _ docs h))
