use Rattle.eb_fields.specs.Dialect.{dialect_of}
use Rattle.std.proofs.Common.{List, Option, String, Global, map, string_bytes, option_map, sym, ap, ◌∙◌}
use Rattle.std.specs.Prelude.{option_and_then}
use Rattle.eb_options.proofs.Splitting.{err_same}
use Rattle.eb_run.specs.Command.{DialectApart}
use Rattle.eb_run.specs.FeedCommand.{FeedAsks, FeedCounting, feed_asks, feed_command_of}
use Rattle.eb_run.specs.declared.command.CommandFault.TheVariants.{Usage}
use Rattle.eb_run.proofs.feed.command.read_feed_command.Goals as goal

pub returns-in-Ok-read_command-clause-request : goal.returns-in-Ok-read_command-clause-request
returns-in-Ok-read_command-clause-request c =
    let ask : Option DialectApart → Option FeedAsks = λ o. option_and_then (λ (a : DialectApart). option_map (feed_asks a.dialect) (feed_command_of a.others)) o in
    let others = ap (λ (ws : List (String Global)). feed_command_of (map string_bytes ws)) (sym c.as_slice.ensures.value) in
    ap ask c.in-Ok.ensures.apart ∙ ap (λ (o : Option FeedCounting). option_map (feed_asks (dialect_of c.in-Ok.apart.dialect)) o) (others ∙ c.in-Ok-read_command.ensures.command)

pub returns-in-Ok-clause-usage : goal.returns-in-Ok-clause-usage
returns-in-Ok-clause-usage c = λ is.
    let ask : Option DialectApart → Option FeedAsks = λ o. option_and_then (λ (a : DialectApart). option_map (feed_asks a.dialect) (feed_command_of a.others)) o in
    let others = ap (λ (ws : List (String Global)). feed_command_of (map string_bytes ws)) (sym c.as_slice.ensures.value) in
    ap ask c.in-Ok.ensures.apart
    ∙ ap (λ (o : Option FeedCounting). option_map (feed_asks (dialect_of c.in-Ok.apart.dialect)) o) (others ∙ c.in-Err-read_command.ensures.usage (err_same c.in-Err-read_command.fault Usage is))

pub returns-clause-usage : goal.returns-clause-usage
returns-clause-usage c = λ is.
    let ask : Option DialectApart → Option FeedAsks = λ o. option_and_then (λ (a : DialectApart). option_map (feed_asks a.dialect) (feed_command_of a.others)) o in
    ap ask (c.in-Err.ensures.usage (err_same c.in-Err.fault Usage is))
