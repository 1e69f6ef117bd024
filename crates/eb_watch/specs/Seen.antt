-- What a contract sees of a `Watches`.
use Rattle.std.specs.Prelude.{List}
use Rattle.eb_watch.specs.declared.watches.Watches.{Watches}
use Rattle.eb_watch.specs.Watches.{Watched}
use Rattle.eb_watch.specs.Held.{watched}

-- the watches that are set, in rising order of their numbers
abbrev pub watches_of : Watches → List Watched
watches_of w = watched w.by_number.entries
