-- What the faults say when they are printed.
use Rattle.std.specs.Prelude.{ℕ, List, codes}
use Rattle.eb_watch.specs.declared.faults.SetFault.{SetFault}
use Rattle.eb_watch.specs.declared.faults.SetFault.TheVariants as unset
use Rattle.eb_watch.specs.declared.faults.WatchFault.{WatchFault}
use Rattle.eb_watch.specs.declared.faults.WatchFault.TheVariants as unadded

-- why a watch was not set
abbrev pub set_fault_text : SetFault → List ℕ
set_fault_text unset.Taken = codes "a watch has this number"
set_fault_text unset.Full = codes "the most watches are set"
set_fault_text unset.NoMemory = codes "memory ran out"

-- why a document was not added
abbrev pub watch_fault_text : WatchFault → List ℕ
watch_fault_text unadded.Full = codes "the index has no room for the document"
watch_fault_text unadded.NoMemory = codes "memory ran out"
