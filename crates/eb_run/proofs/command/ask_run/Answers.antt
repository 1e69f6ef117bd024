use Rattle.eb_fields.specs.Dialect.{dialect_of}
use Rattle.std.proofs.Common.{List, Option, String, Global, map, string_bytes, option_map, sym, ap, ◌∙◌}
use Rattle.std.specs.Prelude.{option_and_then}
use Rattle.eb_options.proofs.Splitting.{err_same}
use Rattle.eb_run.specs.Command.{Asks, Counting, DialectApart, asks_counting, run_of}
use Rattle.eb_run.specs.declared.command.CommandFault.TheVariants.{Usage}
use Rattle.eb_run.proofs.command.ask_run.Goals as goal

pub returns-in-Ok-read_run-clause-request : goal.returns-in-Ok-read_run-clause-request
returns-in-Ok-read_run-clause-request c =
    let ask : Option DialectApart → Option Asks = λ o. option_and_then (λ (a : DialectApart). option_map (asks_counting a.dialect) (run_of a.others)) o in
    let others = ap (λ (ws : List (String Global)). run_of (map string_bytes ws)) (sym c.as_slice.ensures.value) in
    ap ask c.in-Ok.ensures.apart ∙ ap (λ (o : Option Counting). option_map (asks_counting (dialect_of c.in-Ok.apart.dialect)) o) (others ∙ c.in-Ok-read_run.ensures.command)

pub returns-in-Ok-clause-usage : goal.returns-in-Ok-clause-usage
returns-in-Ok-clause-usage c = λ is.
    let ask : Option DialectApart → Option Asks = λ o. option_and_then (λ (a : DialectApart). option_map (asks_counting a.dialect) (run_of a.others)) o in
    let others = ap (λ (ws : List (String Global)). run_of (map string_bytes ws)) (sym c.as_slice.ensures.value) in
    ap ask c.in-Ok.ensures.apart ∙ ap (λ (o : Option Counting). option_map (asks_counting (dialect_of c.in-Ok.apart.dialect)) o)
    (others ∙ c.in-Err-read_run.ensures.usage (err_same c.in-Err-read_run.fault Usage is))

pub returns-clause-usage : goal.returns-clause-usage
returns-clause-usage c = λ is.
    let ask : Option DialectApart → Option Asks = λ o. option_and_then (λ (a : DialectApart). option_map (asks_counting a.dialect) (run_of a.others)) o in
    ap ask (c.in-Err.ensures.usage (err_same c.in-Err.fault Usage is))
