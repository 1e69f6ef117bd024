use Rattle.std.proofs.Common.{Option, option_map, ap}
use Rattle.std.specs.Prelude.{option_and_then}
use Rattle.eb_options.proofs.Splitting.{err_same}
use Rattle.eb_run.specs.Command.{Asks, DialectApart, asks_counting, load_of}
use Rattle.eb_run.specs.declared.command.CommandFault.TheVariants.{Usage}
use Rattle.eb_run.proofs.command.ask_load.Goals as goal

pub returns-clause-usage : goal.returns-clause-usage
returns-clause-usage c = λ is.
    let ask : Option DialectApart → Option Asks = λ o. option_and_then (λ (a : DialectApart). option_map (asks_counting a.dialect) (load_of a.others)) o in
    ap ask (c.in-Err.ensures.usage (err_same c.in-Err.fault Usage is))
