-- What each fault of the reader says of the line.
use Rattle.eb_fields.specs.Dialect.{Dialect, plain}
use Rattle.std.specs.Prelude.{ℕ, List}
use Rattle.eb_query.specs.Reading.{Outcome, bad_number, bad_query, too_deep, too_many_nodes, ReadsWith}
use Rattle.eb_query.specs.WatchLine.{reads, ReadsWatchWith}
use Rattle.eb_query.specs.declared.read.QueryFault.{QueryFault}
use Rattle.eb_query.specs.declared.read.QueryFault.TheVariants as faults

-- the fault is the outcome of which this holds; out of memory says nothing of the line
abbrev pub IsFaultOf : (Outcome → Type 0) → QueryFault → Type 0
IsFaultOf Holds faults.BadNumber = Holds bad_number
IsFaultOf Holds (faults.BadQuery column) = Holds (bad_query column)
IsFaultOf Holds faults.TooDeep = Holds too_deep
IsFaultOf Holds faults.TooManyNodes = Holds too_many_nodes
IsFaultOf Holds faults.NoMemory = Unit {0}

-- the query line is refused with this fault, by the dialect
abbrev pub IsRefusedWith : Dialect → List ℕ → QueryFault → Type 0
IsRefusedWith how line fault = IsFaultOf (ReadsWith how line) fault

-- the watch line is refused with this fault, by the dialect
abbrev pub IsWatchRefusedWith : Dialect → List ℕ → QueryFault → Type 0
IsWatchRefusedWith how line fault = IsFaultOf (λ o. ReadsWatchWith how line (reads o)) fault

-- and so where no option says otherwise
abbrev pub IsRefused : List ℕ → QueryFault → Type 0
IsRefused = IsRefusedWith plain

abbrev pub IsWatchRefused : List ℕ → QueryFault → Type 0
IsWatchRefused = IsWatchRefusedWith plain
