-- What a fault of the options says when it is printed.
use Rattle.std.specs.Prelude.{ℕ, List, codes}
use Rattle.eb_options.specs.declared.items.OptionFault.{OptionFault}
use Rattle.eb_options.specs.declared.items.OptionFault.TheVariants.{Usage, NoMemory}

-- why no items are read from the words
abbrev pub option_fault_text : OptionFault → List ℕ
option_fault_text Usage = codes "bad options"
option_fault_text NoMemory = codes "memory ran out"
