-- What a fault of a query line says when it is printed.
use Rattle.std.specs.Prelude.{ℕ, List, ◌++◌, codes}
use Rattle.std.specs.Fmt.{decimal}
use Rattle.eb_query.specs.declared.read.QueryFault.{QueryFault}
use Rattle.eb_query.specs.declared.read.QueryFault.TheVariants as faults

-- why a line is no query, or no watch
abbrev pub query_fault_text : QueryFault → List ℕ
query_fault_text faults.BadNumber = codes "bad number"
query_fault_text (faults.BadQuery column) = codes "bad query at " ++ decimal column
query_fault_text faults.TooDeep = codes "query too deep"
query_fault_text faults.TooManyNodes = codes "query too large"
query_fault_text faults.NoMemory = codes "memory ran out"
