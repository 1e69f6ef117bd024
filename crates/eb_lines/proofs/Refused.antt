-- A line whose query has a fault is read as its refusal.
use Rattle.std.proofs.Common.{◌≡◌, Some}
use Rattle.eb_query.specs.Reading.{Outcome, bad_number, bad_query, too_deep, too_many_nodes}
use Rattle.eb_query.specs.Refusal.{IsFaultOf}
use Rattle.eb_query.specs.declared.read.QueryFault.{QueryFault}
use Rattle.eb_query.specs.declared.read.QueryFault.TheVariants as faults
use Rattle.eb_lines.specs.declared.refusal.Refusal.{Refusal}
use Rattle.eb_lines.specs.Reading.{refused}
use Rattle.eb_lines.specs.Reads.{of_query}
use Rattle.eb_lines.specs.Works.{refusal_of}

pub refused_as : (Holds : Outcome → Type 0) (fault : QueryFault) (r : Refusal) → IsFaultOf Holds fault → refusal_of fault ≡ Some r → (o : Outcome) × Holds o × (refused r ≡ of_query o)
refused_as Holds faults.BadNumber r h e = (bad_number, h, cc e)
refused_as Holds (faults.BadQuery column) r h e = (bad_query column, h, cc e)
refused_as Holds faults.TooDeep r h e = (too_deep, h, cc e)
refused_as Holds faults.TooManyNodes r h e = (too_many_nodes, h, cc e)
refused_as Holds faults.NoMemory r h e = absurd (cc e)
